use Rattle.std.proofs.Common.{◌≡◌, ◌<◌, [], List, Option, arith, length, subst, sym, true, ℕ, ◌∙◌}
use Rattle.std.specs.Prelude.{◌↔◌, IfSome}
use Rattle.std.specs.List.{slice_index_or}
use Rattle.std.proofs.lemmas.List.{get_or_default}
use Rattle.frz_planes.specs.Planes.{has_pair}
use Rattle.frz_kingless.specs.Boards.{AreLive}
use Rattle.frz_plane_arms.specs.Arms.{KingLeadsQuietly, MakesMember}
use Rattle.frz_plane_arms.specs.Inner.{IsHandedOver}
use Rattle.frz_plane_arms.proofs.LedBySteps.{all_steps, no_steps}
use Rattle.frz_plane_arms.proofs.inside.leading_steps.Goals as goal

pub returns-in-None : goal.returns-in-None
returns-in-None c r p k sound turn board are handed lively a b la lb =
    no_steps r p c.args.lines.now c.args.planes.now c.args.into a b c.empty.result
    (subst (λ (target : Option ℕ). IsHandedOver r.groups p target) c.in-None.is handed)
    (c.empty.ensures a b la lb)

pub returns-in-Some : goal.returns-in-Some
returns-in-Some c r p k sound turn board are handed lively a b la lb =
    let lives = c.args.lives.now in
    let planes = c.args.planes.now in
    let lines = c.args.lines.now in
    let into = c.args.into in
    let d : ℕ = c.in-Some.quiet in
    let there = subst (λ (target : Option ℕ). IsHandedOver r.groups p target) c.in-Some.is handed in
    let many = c.requires.many in
    let low : d < length lives =
    subst (λ (target : Option ℕ). IfSome target (λ x. x < length lives)) c.in-Some.is
    c.requires.inside in
    let low_too : d < length planes = omega arith in
    let after_is : c.index-lives-target.result ≡ slice_index_or lives d [] =
    c.index-lives-target.is ∙ get_or_default lives d c.index-lives-target.result [] low in
    let plane_is : c.index-planes-target.result ≡ slice_index_or planes d [] =
    c.index-planes-target.is ∙ get_or_default planes d c.index-planes-target.result [] low_too in
    all_steps r p lines planes into a b c.leading_quietly.result d there.0
    (subst (λ (to : List ℕ). (has_pair c.leading_quietly.result a b ≡ true)
    ↔ (MakesMember r.groups p a b × KingLeadsQuietly r.groups lines p to into a b)) plane_is
    (c.leading_quietly.ensures r p k d sound turn board are there.0
    (subst (λ (next : List ℕ). AreLive r.groups d next) (sym after_is) (lively d there.1)) a b la lb))
