use Rattle.std.proofs.Common.{arith, ◌≡◌, ◌+◌, ◌*◌, List, ap, subst, ◌∙◌, length, map}
use Rattle.std.specs.List.{AllByRecursion}
use Rattle.frz_combinations.specs.MixedRadix.{product, value}
use Rattle.frz_sets.specs.Sets.{radix_of, targets}
use Rattle.frz_sets.specs.Views.{GroupLine}
use Rattle.frz_index.proofs.Bounds.{number_fits, targets_few}
use Rattle.frz_index.proofs.Covering.{AreLeft, left_none, left_of, member}
use Rattle.frz_index.specs.Members.{Member, Num}
use Rattle.frz_index.specs.Places.{AreCovered, IsWithinCount, digit_of}
use Rattle.frz_index.specs.TurnStates.{turn_among, turn_number}
use Rattle.frz_index.proofs.set.number_in.Goals as goal
use Rattle.frz_index.proofs.set.number_in.Goals.{After-without}

pub turn_number-turn-requires : goal.turn_number-turn-requires
turn_number-turn-requires c =
    omega (
      arith,
      ap length c.deref-4.ensures.value,
      ap length c.requires.plan.targets_are,
      targets_few c.args.plan.now.groups.items,
    )

-- the groups' men are covered, and the others are left
parted : (c : After-without) → AreCovered c.args.p.now
    c.args.plan.now.groups.items c.in_ok-digits.covered
    × AreLeft c.args.p.now c.in_ok-digits.covered c.without.result
parted c = (
  subst (λ (gs : List GroupLine). AreCovered c.args.p.now gs c.in_ok-digits.covered)
      c.deref.ensures.value c.in_ok-digits.ensures.2,
  left_of c.args.p.now c.in_ok-digits.covered c.occupied.result c.without.result
      c.occupied.ensures c.without.ensures,
)

pub returns-then-without-ne0 : goal.returns-then-without-ne0
returns-then-without-ne0 c =
    let part = parted (goal.at.returns-then-without-ne0 c).After-without in
    λ m. c.if-without-ne0.true
    (left_none c.args.plan.now.groups.items c.args.p.now c.in_ok-digits.covered c.without.result
    c.without.type_inv part.0 part.1 m)

within : (c : goal.After-turn_number-turn) → Member c.args.plan.now.groups.items c.args.p.now
within c =
    let part = parted (goal.at.returns c).After-without in
    member c.args.plan.now.groups.items c.args.p.now c.in_ok-digits.covered c.without.result
    c.requires.valid part.0 part.1 c.if-without-ne0.false
    (subst (AllByRecursion (IsWithinCount c.args.p.now)) c.deref.ensures.value
    c.in_ok-digits.ensures.0)

is_number : (c : goal.After-turn_number-turn) →
    c.turn_number-turn.result * c.args.plan.now.whole + c.in_ok-digits.digits
    ≡ Num c.args.plan.now.groups.items c.args.p.now
is_number c =
    let gs = c.args.plan.now.groups.items in
    let p = c.args.p.now in
    let turn : c.turn_number-turn.result ≡ turn_number gs p.turn p.ep =
    c.turn_number-turn.ensures
    ∙ ap (λ ts. turn_among ts c.turn.result c.ep.result)
    (c.deref-4.ensures.value ∙ c.requires.plan.targets_are)
    ∙ ap (λ d. turn_among (targets gs) d c.ep.result) c.turn.ensures
    ∙ ap (turn_among (targets gs) p.turn) c.ep.ensures in
    let digits = c.in_ok-digits.ensures.1
    ∙ ap (λ (gs : List GroupLine). value (map radix_of gs) (map (digit_of p) gs))
    c.deref.ensures.value in
    ap (λ n. n * c.args.plan.now.whole + c.in_ok-digits.digits) turn
    ∙ ap (λ w. turn_number gs p.turn p.ep * w + c.in_ok-digits.digits) c.requires.plan.whole_is
    ∙ ap (λ d. turn_number gs p.turn p.ep * product (map radix_of gs) + d) digits

pub overflow_add-result : goal.overflow_add-result
overflow_add-result c =
    omega (
      arith,
      is_number c,
      number_fits c.args.plan.now.groups.items c.args.p.now
          c.requires.plan.numberable (within c),
    )

pub overflow_mul-result : goal.overflow_mul-result
overflow_mul-result c = omega (arith, overflow_add-result c)

pub returns : goal.returns
returns c = (within c, is_number c)
