use Rattle.std.proofs.Common.{◌≡◌, ◌≤◌, ◌+◌, ◌-◌, ◌∙◌, None, arith, refl, subst, suc, sym}
use Rattle.frz_board.proofs.Lemmas.{cell_back}
use Rattle.frz_board.specs.Boards.{Board}
use Rattle.frz_board.specs.Men.{other_of}
use Rattle.frz_index.proofs.GroupSteps.{product_le, whole_fits}
use Rattle.frz_index.proofs.NumbersAfterSteps.{none_told, share_small, turned_number, turned_some}
use Rattle.frz_index.proofs.NumbersAfterTaking.{after_taking}
use Rattle.frz_index.proofs.OneShare.{same_group, shared_on_both}
use Rattle.frz_index.proofs.Bounds.{number_small}
use Rattle.frz_index.proofs.Charting.{states_in_order}
use Rattle.frz_index.specs.Members.{HasNumber}
use Rattle.frz_index.specs.Taking.{IsCountedTaking}
use Rattle.frz_index.specs.Stepping.{IsSharedOnBoth, number_after, stepped, turn_adds}
use Rattle.frz_index.proofs.across.number_after_taking_in.Goals as goal
use Rattle.frz_index.proofs.across.number_after_taking_in.Goals.{Else-left-comes}

-- the group that counts the man on both squares
abbrev both : (c : Else-left-comes) → IsSharedOnBoth c.args.plan.now.groups.items c.args.man
    c.args.from c.args.to
both c =
    shared_on_both c.args.plan.now.groups.items c.args.man c.args.from c.args.to
    c.in_ok-left.left.group c.in_ok-comes.comes.group c.in_ok-left.left.adds
    c.in_ok-comes.comes.adds c.if-left-comes.false c.in_ok-left.ensures c.in_ok-comes.ensures

abbrev gone : (c : Else-left-comes) → Board
gone c = stepped c.args._p.now c.args.man c.args.from c.args.to None

told : (c : Else-left-comes) → let gs = c.args.plan.now.groups.items in
    let p = c.args._p.now in
    (c.in_ok-left.left.adds + turn_adds gs p.turn p.ep + c.in_ok-less.less
    ≤ c.args._i + c.in_ok-comes.comes.adds + turn_adds gs (other_of p.turn) None)
    × HasNumber gs
    (number_after gs p.turn p.ep None c.args._i c.in_ok-left.left.adds c.in_ok-comes.comes.adds
    - c.in_ok-less.less) (gone c)
told c =
    let low_from = c.number-from.ensures.on_board in
    let from_is = c.number-from.ensures.number in
    let low_to = c.number-to.ensures.on_board in
    let to_is = c.number-to.ensures.number in
    after_taking c.args.plan.now.groups.items c.args._p.now c.args.man c.args.taken c.args.from
    c.args.to None c.args._i c.in_ok-left.left.group c.in_ok-left.left.adds
    c.in_ok-comes.comes.adds c.in_ok-less.less c.requires.number
    (omega (arith, low_from, from_is)) (omega (arith, low_to, to_is)) c.requires.apart
    (cell_back _ c.args.man.colour c.args.man.kind c.requires.man)
    (cell_back _ c.args.taken.colour c.args.taken.kind c.requires.taken) c.requires.valid
    (both c).there
    (states_in_order c.args.plan.now.groups.items c.args.plan.now.charts.items
    c.in_ok-left.left.group (both c).there.group c.requires.plan.charts_are (both c).there.there)
    (both c).then c.in_ok-less.ensures

pub returns-in_err-left-clause-told : goal.returns-in_err-left-clause-told
returns-in_err-left-clause-told c =
    none_told c.from_residual.result
    (IsCountedTaking c.args.plan.now.groups.items c.args.man c.args.taken c.args.from c.args.to)
    c.from_residual.ensures (λ t. c.in_err-left.ensures t.moves.group t.moves.left t.moves.there)

pub returns-in_err-comes-clause-told : goal.returns-in_err-comes-clause-told
returns-in_err-comes-clause-told c =
    none_told c.from_residual-in_err-comes.result
    (IsCountedTaking c.args.plan.now.groups.items c.args.man c.args.taken c.args.from c.args.to)
    c.from_residual-in_err-comes.ensures
    (λ t. c.in_err-comes.ensures t.moves.group t.moves.comes t.moves.then)

pub returns-in_err-less-clause-told : goal.returns-in_err-less-clause-told
returns-in_err-less-clause-told c =
    none_told c.from_residual-in_err-less.result
    (IsCountedTaking c.args.plan.now.groups.items c.args.man c.args.taken c.args.from c.args.to)
    c.from_residual-in_err-less.ensures (λ t. c.in_err-less.ensures t.loss t.goes)

pub returns-then-left-comes-clause-told : goal.returns-then-left-comes-clause-told
returns-then-left-comes-clause-told c =
    let gs = c.args.plan.now.groups.items in
    none_told None (IsCountedTaking gs c.args.man c.args.taken c.args.from c.args.to) refl
    (λ t. c.if-left-comes.true
    (same_group gs c.args.man c.args.from c.args.to c.in_ok-left.left.group
    c.in_ok-comes.comes.group c.in_ok-left.left.adds c.in_ok-comes.comes.adds t.moves
    c.in_ok-left.ensures c.in_ok-comes.ensures))

pub returns-clause-told : goal.returns-clause-told
returns-clause-told c = (
  λ _. record {
    moves = both (goal.at.returns-clause-told c).Else-left-comes;
    loss = c.in_ok-less.less;
    goes = c.in_ok-less.ensures;
  },
  λ _. refl,
)

-- the taken man's loss goes with what the man adds before
same : (c : Else-left-comes) → let gs = c.args.plan.now.groups.items in
    let p = c.args._p.now in
    let t = c.args.turned.now in
    t.gained + c.in_ok-comes.comes.adds - (c.in_ok-left.left.adds + c.in_ok-less.less) - t.lost
    ≡ number_after gs p.turn p.ep None c.args._i c.in_ok-left.left.adds c.in_ok-comes.comes.adds
    - c.in_ok-less.less
same c =
    let turned = turned_number c.args.plan.now.groups.items c.args._i c.args._p.now None
    c.args.turned.now c.requires.turned (c.in_ok-left.left.adds + c.in_ok-less.less)
    c.in_ok-comes.comes.adds in
    omega (arith, turned)

pub overflow_add-left : goal.overflow_add-left
overflow_add-left c =
    let gs = c.args.plan.now.groups.items in
    let n = c.requires.plan.numberable in
    let spare = c.in_ok-less.ensures in
    let left = share_small gs c.args.man c.args.from c.in_ok-left.left.group
    c.in_ok-left.left.adds n c.in_ok-left.ensures in
    let taken = share_small gs c.args.taken c.args.to spare.group spare.adds n spare.share in
    omega (
      arith,
      left,
      taken,
      spare.loss_is,
      product_le gs n.groups (suc spare.group),
      whole_fits gs n,
    )

pub number_by-requires-clause-fits : goal.number_by-requires-clause-fits
number_by-requires-clause-fits c =
    let few = share_small c.args.plan.now.groups.items c.args.man c.args.to
    c.in_ok-comes.comes.group c.in_ok-comes.comes.adds c.requires.plan.numberable
    c.in_ok-comes.ensures in
    let small = c.requires.turned.small in
    omega (arith, few, small)

pub number_by-requires-clause-some : goal.number_by-requires-clause-some
number_by-requires-clause-some c =
    let low = (told (goal.at.number_by-requires-clause-some c).Else-left-comes).0 in
    turned_some c.args.plan.now.groups.items c.args._i c.args._p.now None c.args.turned.now
    c.requires.turned (c.in_ok-left.left.adds + c.in_ok-less.less) c.in_ok-comes.comes.adds
    (omega (arith, low))

pub number_by-requires-clause-small : goal.number_by-requires-clause-small
number_by-requires-clause-small c =
    let d = (goal.at.number_by-requires-clause-small c).Else-left-comes in
    let small = number_small c.args.plan.now.groups.items _ _ c.requires.plan.numberable
    (told d).1 in
    omega (arith, same d, small)

pub returns-clause-number : goal.returns-clause-number
returns-clause-number c =
    let d = (goal.at.returns-clause-number c).Else-left-comes in
    subst (λ n. HasNumber c.args.plan.now.groups.items n (gone d))
    (sym (c.number_by.ensures ∙ same d)) (told d).1
