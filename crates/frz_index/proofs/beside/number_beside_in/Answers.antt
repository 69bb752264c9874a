use Rattle.std.proofs.Common.{◌≡◌, ◌≤◌, ◌+◌, ◌-◌, ◌∙◌, List, ap, arith, subst}
use Rattle.frz_sets.specs.Views.{GroupLine}
use Rattle.frz_index.proofs.DigitsBeside.{inside, none_outside}
use Rattle.frz_index.proofs.NumbersAfterSteps.{number_parts}
use Rattle.frz_index.proofs.WholeNumbers.{Num_below}
use Rattle.frz_index.specs.Beside.{AreChanges}
use Rattle.frz_index.specs.Members.{Member, Num}
use Rattle.frz_index.specs.Stepping.{turn_adds}
use Rattle.frz_index.proofs.beside.number_beside_in.Goals as goal
use Rattle.frz_index.proofs.beside.number_beside_in.Goals.{After-from, After-without}

changes : (c : After-without) →
    AreChanges c.args.p.now c.args.q.now c.args.plan.now.groups.items c.in_ok-digits.digits
changes c =
    subst (λ (gs : List GroupLine). AreChanges c.args.p.now c.args.q.now gs c.in_ok-digits.digits)
    c.deref.ensures.value c.in_ok-digits.ensures

pub returns-then-without-ne0 : goal.returns-then-without-ne0
returns-then-without-ne0 c m =
    c.if-without-ne0.true
    (none_outside c.args.plan.now.groups.items c.args.p.now c.args.q.now c.in_ok-digits.digits
    c.changed-squares.result c.occupied.result c.both.result c.without.result
    (changes (goal.at.returns-then-without-ne0 c).After-without) c.changed-squares.ensures
    c.occupied.ensures c.both.ensures c.without.ensures c.without.type_inv m)

-- what each turn state adds
before_adds : (c : After-from) → c.turn_adds-before.result
    ≡ turn_adds c.args.plan.now.groups.items c.args.p.now.turn c.args.p.now.ep
before_adds c =
    let gs = c.args.plan.now.groups.items in
    c.turn_adds-before.ensures.adds
    ∙ ap (λ t. turn_adds gs t c.ep.result) c.turn.ensures
    ∙ ap (turn_adds gs c.args.p.now.turn) c.ep.ensures

after_adds : (c : After-from) → c.turn_adds-after.result
    ≡ turn_adds c.args.plan.now.groups.items c.args.q.now.turn c.args.q.now.ep
after_adds c =
    let gs = c.args.plan.now.groups.items in
    c.turn_adds-after.ensures.adds
    ∙ ap (λ t. turn_adds gs t c.ep-2.result) c.turn-2.ensures
    ∙ ap (turn_adds gs c.args.q.now.turn) c.ep-2.ensures

-- the sum is the number
told : (c : After-from) → AreChanges c.args.p.now c.args.q.now c.args.plan.now.groups.items
    c.in_ok-digits.digits → (c.in_ok-digits.digits.before + c.turn_adds-before.result
    ≤ c.from.result + c.in_ok-digits.digits.after + c.turn_adds-after.result)
    × (c.from.result + c.in_ok-digits.digits.after + c.turn_adds-after.result
    - c.in_ok-digits.digits.before - c.turn_adds-before.result
    ≡ Num c.args.plan.now.groups.items c.args.q.now)
told c h =
    let gs = c.args.plan.now.groups.items in
    let before = number_parts gs c.args.p.now in
    let after = number_parts gs c.args.q.now in
    let is = c.requires.number.number in
    let sum = h.sum in
    let e = c.from.ensures in
    let left = before_adds c in
    let comes = after_adds c in (
      omega (arith, before, is, sum, e, left, comes),
      omega (arith, before, after, is, sum, e, left, comes),
    )

within : (c : After-without) → c.without.result ≡ 0 →
    Member c.args.plan.now.groups.items c.args.q.now
within c none =
    inside c.args.plan.now.groups.items c.args.p.now c.args.q.now c.in_ok-digits.digits
    c.changed-squares.result c.occupied.result c.both.result c.without.result (changes c)
    c.changed-squares.ensures c.occupied.ensures c.both.ensures c.without.ensures
    c.requires.number.member c.requires.valid none

pub overflow_cast-result : goal.overflow_cast-result
overflow_cast-result c =
    let d = (goal.at.overflow_cast-result c).After-without in
    let e = (goal.at.overflow_cast-result c).After-from in
    let below = Num_below c.args.plan.now.groups.items c.args.q.now
    (within d c.if-without-ne0.false) in
    let is = (told e (changes d)).1 in
    let size = c.requires.plan.numberable.size in
    omega (arith, is, below, size)

pub returns : goal.returns
returns c =
    let d = (goal.at.returns c).After-without in
    let e = (goal.at.returns c).After-from in
    (within d c.if-without-ne0.false, (told e (changes d)).1)
