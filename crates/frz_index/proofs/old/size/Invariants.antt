use Rattle.frz_index.proofs.RadixProducts.{OldTimes}
use Rattle.frz_index.proofs.old.size.Given as goal

abbrev pub invariant-loop-g : goal.invariant-loop-g
invariant-loop-g l = OldTimes l.groups l.g-index l.total
