use Rattle.std.proofs.Common.{◌+◌, arith, ap, length}
use Rattle.std.proofs.lemmas.Nat.{mul-le}
use Rattle.frz_index.proofs.Bounds.{targets_few, whole_some}
use Rattle.frz_index.proofs.set.Set.size.Goals as goal

pub overflow_cast-result : goal.overflow_cast-result
overflow_cast-result c =
    omega (
      arith,
      c.len.ensures,
      ap length c.self.invariant.targets_are,
      targets_few c.self.inside.plan.groups.items,
    )

pub overflow_add-result : goal.overflow_add-result
overflow_add-result c =
    omega (
      arith,
      c.len.ensures,
      ap length c.self.invariant.targets_are,
      targets_few c.self.inside.plan.groups.items,
    )

pub returns-clause-some : goal.returns-clause-some
returns-clause-some c =
    let whole = whole_some c.self.inside.plan.groups.items c.self.inside.plan.whole
    c.self.invariant.numberable c.self.invariant.whole_is in
    omega (arith, mul-le 1 1 (c.len.result + 2) c.self.inside.plan.whole (omega arith) whole)
