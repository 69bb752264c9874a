use Rattle.std.proofs.Common.{arith, ◌∙◌, ◌+◌, ◌-◌, ap, length, sym, subst, refl}
use Rattle.frz_combinations.specs.Binomials.{capped}
use Rattle.frz_combinations.specs.Selections.{choices}
use Rattle.frz_sets.specs.Views.{GroupLine}
use Rattle.frz_index.specs.Charts.{IsCounted}
use Rattle.frz_index.proofs.Covering.{squares_of_group}
use Rattle.frz_index.proofs.GroupDigits.{IsDigit, digit_read}
use Rattle.frz_index.proofs.digit.digit.Goals as goal

all : (c : goal.After-smaller-first) →
    IsDigit c.args.p.now c.args.group.now (c.smaller-first.result + c.in_ok-count.field-0.rank)
all c =
    let states = ap length c.as_slice.ensures.value in
    let Group : GroupLine
    → Type 0 = λ g. IsCounted c.args.p.now g (length g.states) c.in_ok-count.field-0 in
    let counted = subst Group (sym c.group.view_is) c.in_ok-count.ensures in
    digit_read c.args.p.now _ c.args.group.now _ c.in_ok-count.field-0.count c.smaller-first.result
    c.in_ok-count.field-0.rank c.group.view_is refl c.requires.size
    (counted.count_is, counted.few, counted.rank_is) c.if-count-group.false
    (c.smaller-first.ensures
    ∙ ap (λ s. capped
    (choices s c.group.inside.least (c.in_ok-count.field-0.count - c.group.inside.least))) states)

pub overflow_add-result : goal.overflow_add-result
overflow_add-result c = omega (arith, (all c).small)

pub overflow_cast-result : goal.overflow_cast-result
overflow_cast-result c = omega (arith, (all c).small)

pub returns : goal.returns
returns c = (
  (all c).counted,
  (all c).sum_is,
  squares_of_group c.args.p.now c.args.group.now _
      c.in_ok-count.ensures.squares_are,
)
