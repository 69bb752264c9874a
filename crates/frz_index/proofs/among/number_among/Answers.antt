use Rattle.std.proofs.Common.{◌≡◌, ◌+◌, ◌-◌, ◌∙◌, ◌<◌, List, arith, length, refl, subst, sym}
use Rattle.std.proofs.lemmas.Option.{slice_get_within}
use Rattle.frz_board.specs.Boards.{Board}
use Rattle.frz_sets.specs.Sound.{AreStates}
use Rattle.frz_sets.specs.Views.{GroupLine}
use Rattle.frz_index.proofs.AmongSeveral.{StepTold, SumTold, after_among, counted_on_both, on_both, with_sums}
use Rattle.frz_index.proofs.NumbersAfterSteps.{none_told, turned_number, turned_some}
use Rattle.frz_index.proofs.Bounds.{number_small}
use Rattle.frz_index.proofs.Charting.{states_in_order}
use Rattle.frz_index.proofs.Stepping.{step_to_empty}
use Rattle.frz_index.specs.Members.{HasNumber}
use Rattle.frz_index.specs.Places.{IsWithinCount}
use Rattle.frz_index.specs.Stepping.{HasOnBoth, IsCountedOnBoth, IsStep, number_after, stepped}
use Rattle.frz_index.proofs.among.number_among.Goals as goal
use Rattle.frz_index.proofs.among.number_among.Goals.{After-gone-q, In_ok-comes}

on : (c : After-gone-q) → HasOnBoth c.args.plan.now.groups.items c.args.man c.args.from c.args.to
    c.in_ok-k.k
on c =
    subst (λ (gs : List GroupLine). HasOnBoth gs c.args.man c.args.from c.args.to c.in_ok-k.k)
    c.deref.ensures.value c.in_ok-k.ensures

within : (c : After-gone-q) → c.in_ok-k.k < length c.args.plan.now.groups.items
within c = slice_get_within c.args.plan.now.groups.items c.in_ok-k.k (on c).0 (on c).1

is_step : (c : After-gone-q) → IsStep c.args.p.now c.args.man c.args.from c.args.to
is_step c =
    let low_from = c.number-from.ensures.on_board in
    let from_is = c.number-from.ensures.number in
    let low_to = c.number-to.ensures.on_board in
    let to_is = c.number-to.ensures.number in
    step_to_empty c.args.p.now c.args.man c.args.from c.args.to
    c.requires.number.member.valid.fits.size (omega (arith, low_from, from_is))
    (omega (arith, low_to, to_is)) c.requires.man c.requires.free

in_order : (c : After-gone-q) → AreStates (on c).0.states
in_order c =
    states_in_order c.args.plan.now.groups.items c.args.plan.now.charts.items c.in_ok-k.k (on c).0
    c.requires.plan.charts_are (on c).1

told : (c : After-gone-q) → StepTold c.args.plan.now.groups.items c.args.p.now c.args.man
    c.args.from c.args.to c.args.target.now c.args._i c.in_ok-k.k (on c).0
told c =
    after_among c.args.plan.now.groups.items c.args.p.now c.args.man c.args.from c.args.to
    c.args.target.now c.args._i c.in_ok-k.k c.requires.plan.apart c.requires.number (is_step c)
    c.requires.valid (on c) (in_order c)

sum : (c : In_ok-comes) (on : HasOnBoth c.args.plan.now.groups.items c.args.man c.args.from
    c.args.to c.in_ok-k.k) → StepTold c.args.plan.now.groups.items c.args.p.now c.args.man
    c.args.from c.args.to c.args.target.now c.args._i c.in_ok-k.k on.0 →
    SumTold c.args.plan.now.groups.items c.args.p.now c.args.man
    c.args.from c.args.to c.args.target.now c.args._i c.in_ok-left.left c.in_ok-comes.comes
sum c on t =
    with_sums c.args.plan.now.groups.items c.args.p.now c.args.man c.args.from c.args.to
    c.args.target.now c.args._i c.in_ok-k.k on.0 c.gone-q.result c.in_ok-left.left
    c.in_ok-comes.comes t c.gone-q.ensures (c.in_ok-left.ensures.adds on.0 on.1).1
    (c.in_ok-comes.ensures.adds on.0 on.1).1

same : (c : In_ok-comes) → let p = c.args.p.now in
    let t = c.args.turned.now in
    t.gained + c.in_ok-comes.comes - c.in_ok-left.left - t.lost
    ≡ number_after c.args.plan.now.groups.items p.turn p.ep c.args.target.now c.args._i
    c.in_ok-left.left c.in_ok-comes.comes
same c =
    turned_number c.args.plan.now.groups.items c.args._i c.args.p.now c.args.target.now
    c.args.turned.now c.requires.turned c.in_ok-left.left c.in_ok-comes.comes

pub returns-in_err-k-clause-told : goal.returns-in_err-k-clause-told
returns-in_err-k-clause-told c =
    let gs = c.args.plan.now.groups.items in
    none_told c.from_residual.result (IsCountedOnBoth gs c.args.man c.args.from c.args.to)
    c.from_residual.ensures
    (λ t. c.in_err-k.ensures t.group
    (subst (λ (gs : List GroupLine). HasOnBoth gs c.args.man c.args.from c.args.to t.group)
    (sym c.deref.ensures.value) (on_both gs c.args.man c.args.from c.args.to t)))

pub digit_adds-requires-clause-within : goal.digit_adds-requires-clause-within
digit_adds-requires-clause-within c =
    within (goal.at.digit_adds-requires-clause-within c).After-gone-q

pub digit_adds-requires-2-clause-within : goal.digit_adds-requires-2-clause-within
digit_adds-requires-2-clause-within c =
    within (goal.at.digit_adds-requires-2-clause-within c).After-gone-q

pub returns-in_err-left-clause-told : goal.returns-in_err-left-clause-told
returns-in_err-left-clause-told c =
    let d = (goal.at.returns-in_err-left-clause-told c).After-gone-q in
    none_told c.from_residual-in_err-left.result
    (IsCountedOnBoth c.args.plan.now.groups.items c.args.man c.args.from c.args.to)
    c.from_residual-in_err-left.ensures
    (λ t. c.in_err-left.ensures.adds (on d).0 (on d).1 (told d).0)

pub returns-in_err-comes-clause-told : goal.returns-in_err-comes-clause-told
returns-in_err-comes-clause-told c =
    let d = (goal.at.returns-in_err-comes-clause-told c).After-gone-q in
    none_told c.from_residual-in_err-comes.result
    (IsCountedOnBoth c.args.plan.now.groups.items c.args.man c.args.from c.args.to)
    c.from_residual-in_err-comes.ensures
    (λ t. c.in_err-comes.ensures.adds (on d).0 (on d).1
    (subst (λ (q : Board). IsWithinCount q (on d).0) (sym c.gone-q.ensures) (told d).1))

pub number_by-requires-clause-some : goal.number_by-requires-clause-some
number_by-requires-clause-some c =
    let d = (goal.at.number_by-requires-clause-some c).After-gone-q in
    let e = (goal.at.number_by-requires-clause-some c).In_ok-comes in
    turned_some c.args.plan.now.groups.items c.args._i c.args.p.now c.args.target.now
    c.args.turned.now c.requires.turned c.in_ok-left.left c.in_ok-comes.comes
    (sum e (on d) (told d)).0

pub number_by-requires-clause-small : goal.number_by-requires-clause-small
number_by-requires-clause-small c =
    let d = (goal.at.number_by-requires-clause-small c).After-gone-q in
    let e = (goal.at.number_by-requires-clause-small c).In_ok-comes in
    let small = number_small c.args.plan.now.groups.items _ _ c.requires.plan.numberable
    (sum e (on d) (told d)).1 in
    omega (arith, small, same e)

pub returns-clause-told : goal.returns-clause-told
returns-clause-told c =
    let d = (goal.at.returns-clause-told c).After-gone-q in (
      λ _. counted_on_both c.args.plan.now.groups.items c.args.man c.args.from c.args.to c.in_ok-k.k
          c.requires.plan.apart (on d),
      λ _. refl,
    )

pub returns-clause-number : goal.returns-clause-number
returns-clause-number c =
    let gs = c.args.plan.now.groups.items in
    let d = (goal.at.returns-clause-number c).After-gone-q in
    let e = (goal.at.returns-clause-number c).In_ok-comes in
    subst (λ n. HasNumber gs n (stepped c.args.p.now c.args.man c.args.from c.args.to
    c.args.target.now)) (sym (c.number_by.ensures ∙ same e)) (sum e (on d) (told d)).1

pub number_by-requires-clause-fits : goal.number_by-requires-clause-fits
number_by-requires-clause-fits c =
    let few = c.in_ok-comes.ensures.small in
    let small = c.requires.turned.small in
    omega (arith, few, small)
