use Rattle.std.proofs.Common.{◌≡◌, ◌*◌, ◌∙◌, Option, Some, ap, arith, length, refl, slice_index, subst, sym, ℕ}
use Rattle.std.specs.List.{slice_get}
use Rattle.std.proofs.lemmas.List.{get_or_default}
use Rattle.std.proofs.lemmas.Option.{same_Some, slice_get_read}
use Rattle.frz_index.proofs.DigitsBeside.{digit_adds, radix_fits}
use Rattle.frz_index.proofs.GroupSteps.{At, at_read}
use Rattle.frz_index.specs.Places.{IsWithinCount, digit_of}
use Rattle.frz_index.specs.Stepping.{DigitAdds}
use Rattle.frz_index.proofs.among.digit_adds.Goals as goal
use Rattle.frz_index.proofs.among.digit_adds.Goals.{After-from-2, After-index}

-- the group that was read
read : (c : After-index) → slice_get c.args.plan.now.groups.items c.args.k ≡ Some c.index.result.now
read c =
    let gs = c.args.plan.now.groups.items in
    slice_get_read gs (length gs) c.args.k c.index.result.now refl c.requires.within c.index.ensures

at : (c : After-index) → At c.args.plan.now.groups.items c.args.k c.index.result.now
    (slice_index c.args.plan.now.weights.items c.args.k)
at c =
    at_read c.args.plan.now.groups.items c.args.plan.now.weights.items c.args.k c.index.result.now
    c.requires.plan.numberable c.requires.plan.weights_are c.requires.within c.index.ensures

pub digit-requires-clause-chart : goal.digit-requires-clause-chart
digit-requires-clause-chart c =
    let charts = c.args.plan.now.charts.items in
    c.requires.plan.charts_are.each c.args.k _ _
    (read (goal.at.digit-requires-clause-chart c).After-index)
    (slice_get_read charts (length charts) c.args.k c.index-2.result.now refl
    (omega (arith, c.requires.within, c.requires.plan.charts_are.size)) c.index-2.ensures)

pub digit-requires-clause-size : goal.digit-requires-clause-size
digit-requires-clause-size c =
    radix_fits c.args.plan.now.groups.items c.args.k c.index.result.now
    (slice_index c.args.plan.now.weights.items c.args.k) c.requires.plan.numberable
    (at (goal.at.digit-requires-clause-size c).After-index)

pub returns-in_err-digit-clause-adds : goal.returns-in_err-digit-clause-adds
returns-in_err-digit-clause-adds c g e =
    let gs = c.args.plan.now.groups.items in
    let p = c.args.p.now in
    let own = same_Some c.index.result.now g
    (sym (read (goal.at.returns-in_err-digit-clause-adds c).After-index) ∙ e) in
    subst (λ (o : Option ℕ). DigitAdds gs p c.args.k g o) (sym c.from_residual.ensures)
    (λ w. c.in_err-digit.ensures (subst (IsWithinCount p) (sym own) w))

-- its weight
weight : (c : After-from-2) → c.from-2.result
    ≡ slice_index c.args.plan.now.weights.items c.args.k
weight c =
    c.from-2.ensures ∙ c.index-3.ensures
    ∙ get_or_default c.args.plan.now.weights.items c.args.k c.index-3.result.now 0
    (omega (arith, c.requires.within, c.requires.plan.weights_are.size))

pub returns-clause-adds : goal.returns-clause-adds
returns-clause-adds c g e =
    let p = c.args.p.now in
    let own = same_Some c.index.result.now g
    (sym (read (goal.at.returns-clause-adds c).After-index) ∙ e) in
    let is = c.in_ok-digit.ensures in (
      subst (IsWithinCount p) own is.0,
      ap (λ d. d * c.from-2.result) (c.from.ensures ∙ is.1 ∙ ap (digit_of p) own)
          ∙ ap (λ w. digit_of p g * w)
          (weight (goal.at.returns-clause-adds c).After-from-2
          ∙ c.requires.plan.weights_are.known c.args.k c.requires.within),
    )

pub returns-clause-small : goal.returns-clause-small
returns-clause-small c =
    let p = c.args.p.now in
    let is = c.in_ok-digit.ensures in
    let w = slice_index c.args.plan.now.weights.items c.args.k in
    let same : c.from.result * c.from-2.result ≡ c.in_ok-digit.digit * w =
    ap (λ d. d * c.from-2.result) c.from.ensures
    ∙ ap (λ n. c.in_ok-digit.digit * n) (weight (goal.at.returns-clause-small c).After-from-2) in
    omega (
      arith,
      same,
      digit_adds p c.args.plan.now.groups.items c.args.k c.in_ok-digit.digit c.index.result.now w
          c.requires.plan.numberable (at (goal.at.returns-clause-small c).After-index) is.0
          (omega (arith, is.1)),
    )
