use Rattle.std.proofs.Common.{◌≡◌, ◌+◌, ◌<◌, [], List, ap, arith, length, refl, subst, sym, ℕ, ◌∙◌}
use Rattle.std.specs.List.{slice_index_or}
use Rattle.std.proofs.lemmas.List.{get_or_default}
use Rattle.std.proofs.lemmas.Option.{slice_get_read}
use Rattle.frz_plane_arms.specs.Arms.{is_led}
use Rattle.frz_plane_arms.specs.declared.men.ManArm.{ManArm}
use Rattle.frz_plane_arms.proofs.LedByMen.{AreLed, led_at_last, led_more, none_led, passed_by}
use Rattle.frz_plane_arms.proofs.led.leading_men.Goals as goal
use Rattle.frz_plane_arms.proofs.led.leading_men.Goals.{then-counts, else-counts}

pub loop-arm-init : goal.loop-arm-init
loop-arm-init c =
    none_led c.args.arms.now c.args.only_free c.args.live.now c.args.lives.now c.args.planes.now
    c.args.into c.empty-pairs.result c.empty-pairs.ensures

pub loop-arm-preserved : goal.loop-arm-preserved
loop-arm-preserved c =
    let arms = c.args.arms.now in
    let free = c.args.only_free in
    let i = c.loop-arm.arm-index in
    let arm = c.arm-item.result in
    let live = c.args.live.now in
    let lives = c.args.lives.now in
    let planes = c.args.planes.now in
    let into = c.args.into in
    let there = slice_get_read arms (length arms) i arm refl c.loop-arm-test.true c.arm-item.is in
    elim c.if-counts.branch [
      | then-counts w ↦ (let inside = c.requires.inside i arm c.loop-arm-test.true in
          let many = c.requires.many in
          let read = ap (λ (x : ManArm). x.target) c.arm-item.is in
          let low : arm.target < length lives = omega arith in
          let low_too : arm.target < length planes = omega arith in
          let lives_is : w.index-lives-target.result ≡ slice_index_or lives arm.target [] =
          w.index-lives-target.is
          ∙ get_or_default lives arm.target w.index-lives-target.result [] low in
          let plane_is : w.index-planes-target.result ≡ slice_index_or planes arm.target [] =
          w.index-planes-target.is
          ∙ get_or_default planes arm.target w.index-planes-target.result [] low_too in
          subst (λ (pairs : List ℕ). AreLed arms free live lives planes into (i + 1) pairs)
          (sym w.pairs-is)
          (led_more arms free live lives planes into i arm c.loop-arm.pairs
          w.leading_pairs-led.result w.union_with.new.self c.loop-arm.invariant there
          (sym c.counts.ensures ∙ w.if-counts.true) w.leading_pairs-led.ensures.step
          (λ a b la lb.
          w.leading_pairs-led.ensures.plane a b la lb
          ∙ ap (λ (xs : List ℕ). is_led arm.step live xs w.index-planes-target.result into a b)
          lives_is
          ∙ ap (λ (xs : List ℕ). is_led arm.step live (slice_index_or lives arm.target []) xs into a b)
          plane_is) w.union_with.ensures))
      | else-counts w ↦ subst (λ (pairs : List ℕ). AreLed arms free live lives planes into (i + 1)
          pairs) (sym w.pairs-is)
          (passed_by arms free live lives planes into i arm c.loop-arm.pairs c.loop-arm.invariant
          there (sym c.counts.ensures ∙ w.if-counts.false))
    ]

pub returns : goal.returns
returns c =
    led_at_last c.args.arms.now c.args.only_free c.args.live.now c.args.lives.now
    c.args.planes.now c.args.into c.loop-arm.arm-index c.loop-arm.pairs c.loop-arm-test.false
    c.loop-arm.invariant
