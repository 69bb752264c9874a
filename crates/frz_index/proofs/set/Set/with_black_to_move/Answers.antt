use Rattle.std.proofs.Common.{List, arith, ap, map, ◌∙◌}
use Rattle.frz_combinations.specs.MixedRadix.{product}
use Rattle.frz_sets.specs.Sets.{radix_of, size_of}
use Rattle.frz_sets.specs.Views.{GroupLine}
use Rattle.frz_index.proofs.Partners.{Member-with_black, second_below, second_is}
use Rattle.frz_index.proofs.set.Set.with_black_to_move.Goals as goal

pub overflow_add-result : goal.overflow_add-result
overflow_add-result c =
    let whole = c.self.invariant.whole_is ∙ ap (λ (gs : List GroupLine). product (map radix_of gs))
    c.self.view_is in
    omega (
      arith,
      second_below c.args.self.now c.args.i c.self.inside.plan.whole c.requires.first
          whole,
      c.self.invariant.numberable.size,
      ap size_of c.self.view_is,
    )

pub returns-clause-number : goal.returns-clause-number
returns-clause-number c p h =
    let whole = c.self.invariant.whole_is ∙ ap (λ (gs : List GroupLine). product (map radix_of gs))
    c.self.view_is in
    omega (
      arith,
      second_is c.args.self.now c.args.i c.self.inside.plan.whole c.requires.first whole
          p h,
    )

pub returns-clause-member : goal.returns-clause-member
returns-clause-member c p h = Member-with_black c.args.self.now p h.member

pub returns-clause-inside : goal.returns-clause-inside
returns-clause-inside c =
    let whole = c.self.invariant.whole_is ∙ ap (λ (gs : List GroupLine). product (map radix_of gs))
    c.self.view_is in
    omega (
      arith,
      second_below c.args.self.now c.args.i c.self.inside.plan.whole c.requires.first
          whole,
    )
