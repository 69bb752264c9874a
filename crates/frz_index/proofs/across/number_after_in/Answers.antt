use Rattle.std.proofs.Common.{◌≡◌, ◌≤◌, ◌+◌, ◌-◌, ◌∙◌, None, arith, refl, subst, sym}
use Rattle.frz_board.specs.Boards.{Board}
use Rattle.frz_board.specs.Men.{other_of}
use Rattle.frz_index.proofs.NumbersAfterSteps.{after_step, none_told, share_small, turned_number, turned_some}
use Rattle.frz_index.proofs.OneShare.{same_group, shared_on_both}
use Rattle.frz_index.proofs.Bounds.{number_small}
use Rattle.frz_index.proofs.Charting.{states_in_order}
use Rattle.frz_index.proofs.Stepping.{step_to_empty}
use Rattle.frz_index.specs.Members.{HasNumber}
use Rattle.frz_index.specs.Stepping.{IsSharedOnBoth, IsStep, number_after, stepped, turn_adds}
use Rattle.frz_index.proofs.across.number_after_in.Goals as goal
use Rattle.frz_index.proofs.across.number_after_in.Goals.{Else-left-comes}

is_step : (c : Else-left-comes) → IsStep c.args._p.now c.args.man c.args.from c.args.to
is_step c =
    let low_from = c.number-from.ensures.on_board in
    let from_is = c.number-from.ensures.number in
    let low_to = c.number-to.ensures.on_board in
    let to_is = c.number-to.ensures.number in
    step_to_empty c.args._p.now c.args.man c.args.from c.args.to
    c.requires.number.member.valid.fits.size (omega (arith, low_from, from_is))
    (omega (arith, low_to, to_is)) c.requires.man c.requires.free

-- the group that counts the man on both squares
abbrev both : (c : Else-left-comes) → IsSharedOnBoth c.args.plan.now.groups.items c.args.man
    c.args.from c.args.to
both c =
    shared_on_both c.args.plan.now.groups.items c.args.man c.args.from c.args.to
    c.in_ok-left.left.group c.in_ok-comes.comes.group c.in_ok-left.left.adds
    c.in_ok-comes.comes.adds c.if-left-comes.false c.in_ok-left.ensures c.in_ok-comes.ensures

abbrev gone : (c : Else-left-comes) → Board
gone c = stepped c.args._p.now c.args.man c.args.from c.args.to c.args._target.now

told : (c : Else-left-comes) → let gs = c.args.plan.now.groups.items in
    let p = c.args._p.now in
    (c.in_ok-left.left.adds + turn_adds gs p.turn p.ep
    ≤ c.args._i + c.in_ok-comes.comes.adds + turn_adds gs (other_of p.turn) c.args._target.now)
    × HasNumber gs
    (number_after gs p.turn p.ep c.args._target.now c.args._i c.in_ok-left.left.adds
    c.in_ok-comes.comes.adds)
    (gone c)
told c =
    after_step c.args.plan.now.groups.items c.args._p.now c.args.man c.args.from c.args.to
    c.args._target.now c.args._i c.in_ok-left.left.group c.in_ok-left.left.adds
    c.in_ok-comes.comes.adds c.requires.number (is_step c) c.requires.valid (both c).there
    (states_in_order c.args.plan.now.groups.items c.args.plan.now.charts.items
    c.in_ok-left.left.group (both c).there.group c.requires.plan.charts_are (both c).there.there)
    (both c).then

same : (c : Else-left-comes) → let gs = c.args.plan.now.groups.items in
    let p = c.args._p.now in
    let t = c.args.turned.now in
    t.gained + c.in_ok-comes.comes.adds - c.in_ok-left.left.adds - t.lost
    ≡ number_after gs p.turn p.ep c.args._target.now c.args._i c.in_ok-left.left.adds
    c.in_ok-comes.comes.adds
same c =
    turned_number c.args.plan.now.groups.items c.args._i c.args._p.now c.args._target.now
    c.args.turned.now c.requires.turned c.in_ok-left.left.adds c.in_ok-comes.comes.adds

pub returns-in_err-left-clause-told : goal.returns-in_err-left-clause-told
returns-in_err-left-clause-told c =
    none_told c.from_residual.result
    (IsSharedOnBoth c.args.plan.now.groups.items c.args.man c.args.from c.args.to)
    c.from_residual.ensures (λ t. c.in_err-left.ensures t.group t.left t.there)

pub returns-in_err-comes-clause-told : goal.returns-in_err-comes-clause-told
returns-in_err-comes-clause-told c =
    none_told c.from_residual-in_err-comes.result
    (IsSharedOnBoth c.args.plan.now.groups.items c.args.man c.args.from c.args.to)
    c.from_residual-in_err-comes.ensures (λ t. c.in_err-comes.ensures t.group t.comes t.then)

pub returns-then-left-comes-clause-told : goal.returns-then-left-comes-clause-told
returns-then-left-comes-clause-told c =
    let gs = c.args.plan.now.groups.items in
    none_told None (IsSharedOnBoth gs c.args.man c.args.from c.args.to) refl
    (λ t. c.if-left-comes.true
    (same_group gs c.args.man c.args.from c.args.to c.in_ok-left.left.group
    c.in_ok-comes.comes.group c.in_ok-left.left.adds c.in_ok-comes.comes.adds t
    c.in_ok-left.ensures c.in_ok-comes.ensures))

pub returns-clause-told : goal.returns-clause-told
returns-clause-told c = (
  λ _. both (goal.at.returns-clause-told c).Else-left-comes,
  λ _. refl,
)

pub number_by-requires-clause-fits : goal.number_by-requires-clause-fits
number_by-requires-clause-fits c =
    let few = share_small c.args.plan.now.groups.items c.args.man c.args.to
    c.in_ok-comes.comes.group c.in_ok-comes.comes.adds c.requires.plan.numberable
    c.in_ok-comes.ensures in
    let small = c.requires.turned.small in
    omega (arith, few, small)

pub number_by-requires-clause-some : goal.number_by-requires-clause-some
number_by-requires-clause-some c =
    turned_some c.args.plan.now.groups.items c.args._i c.args._p.now c.args._target.now
    c.args.turned.now c.requires.turned c.in_ok-left.left.adds c.in_ok-comes.comes.adds
    (told (goal.at.number_by-requires-clause-some c).Else-left-comes).0

pub number_by-requires-clause-small : goal.number_by-requires-clause-small
number_by-requires-clause-small c =
    let d = (goal.at.number_by-requires-clause-small c).Else-left-comes in
    let small = number_small c.args.plan.now.groups.items _ _ c.requires.plan.numberable
    (told d).1 in
    omega (arith, small, same d)

pub returns-clause-number : goal.returns-clause-number
returns-clause-number c =
    let d = (goal.at.returns-clause-number c).Else-left-comes in
    subst (λ n. HasNumber c.args.plan.now.groups.items n (gone d))
    (sym (c.number_by.ensures ∙ same d)) (told d).1
