use Rattle.std.proofs.Common.{◌≡◌, ℕ, ◌+◌, ◌*◌, ◌<◌, arith, ap, ◌∙◌, inl, inr, true}
use Rattle.std.proofs.lemmas.Bool.Decides.{nat_tests}
use Rattle.frz_board.specs.Men.{is_man_of, man_of_cell}
use Rattle.frz_board.specs.declared.man.Colour.{Colour}
use Rattle.frz_board.specs.declared.man.Colour.TheVariants.{White, Black}
use Rattle.frz_unmove.specs.Gathering.{ComesAs, first_taken, taken_of}
use Rattle.frz_unmove.proofs.Coming.{taken_cases}
use Rattle.frz_unmove.proofs.Adding.{walk_first, walk_next, walk_end}
use Rattle.frz_unmove.proofs.gathering.add_from_origins.Goals as goal

some_first : (c : Colour) → 0 < first_taken c
some_first White = omega arith
some_first Black = omega arith

pub loop-k-init : goal.loop-k-init
loop-k-init c =
    let gs = c.args.set.now in
    let q = c.args.q.now in
    let some = some_first q.turn in
    walk_first (ComesAs gs q c.args.to c.args.promo) (taken_of gs) c.args.out.now
    c.add_taking.new.out 0 (first_taken q.turn + 0) 576 576 c.add_taking.ensures (omega arith)
    (omega (arith, some))
    (λ x h. elim (taken_cases gs q x h.0.0) [
      | inl e ↦ inl e
      | inr r ↦ inr (let low = r.0 in omega (arith, low))
    ])

pub loop-k-preserved : goal.loop-k-preserved
loop-k-preserved c =
    let gs = c.args.set.now in
    let q = c.args.q.now in
    let k = c.loop-k.k in
    let t : c.first_taken-first.result ≡ first_taken q.turn = c.first_taken-first.ensures.first
    ∙ ap first_taken c.turn.ensures in
    walk_next (ComesAs gs q c.args.to c.args.promo) (taken_of gs) c.args.out.now c.loop-k.out
    c.add_taken.new.out
    (first_taken q.turn + k) (c.first_taken-first.result + k) (first_taken q.turn + (k + 1))
    (576 + 576 * k) 576 (576 + 576 * (k + 1)) c.loop-k.invariant c.add_taken.ensures (omega arith)
    (omega (arith, t)) (omega (arith, t))
    (λ x h low high. omega (arith, t, low, high))

pub returns : goal.returns
returns c =
    let gs = c.args.set.now in
    let q = c.args.q.now in
    let end = c.loop-k-test.false in
    let within = c.loop-k.auto.k-end in
    let some = some_first q.turn in
    walk_end (ComesAs gs q c.args.to c.args.promo) (taken_of gs) c.args.out.now c.loop-k.out
    (first_taken q.turn + c.loop-k.k) (576 + 576 * c.loop-k.k) 3456 c.loop-k.invariant
    (omega (arith, within))
    (λ x h low. elim (taken_cases gs q x h.0.0) [
      | inl e ↦ omega (arith, e, low, end, some)
      | inr r ↦ (let high = r.1 in omega (arith, high, low, end))
    ])

side_by : (d : Colour) (k : ℕ) → k < 5 → is_man_of d (man_of_cell (first_taken d + k)) ≡ true
side_by White k l = grind (arith, nat_tests)
side_by Black k l = grind (arith, nat_tests)

pub add_taken-requires-clause-side : goal.add_taken-requires-clause-side
add_taken-requires-clause-side c =
    let q = c.args.q.now in
    let first : c.first_taken-first.result ≡ first_taken q.turn = c.first_taken-first.ensures.first
    ∙ ap first_taken c.turn.ensures in
    ap (λ n. is_man_of q.turn (man_of_cell (n + c.loop-k.k))) first
    ∙ side_by q.turn c.loop-k.k c.loop-k-test.true
