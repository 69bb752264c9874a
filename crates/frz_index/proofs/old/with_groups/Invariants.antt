use Rattle.frz_index.proofs.DigitByDigit.{OldLeft}
use Rattle.frz_index.proofs.old.with_groups.Given as goal

abbrev pub invariant-loop-g : goal.invariant-loop-g
invariant-loop-g l = OldLeft l.p l.groups l.start l.g-index l.number
