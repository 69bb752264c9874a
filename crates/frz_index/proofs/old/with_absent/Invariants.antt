use Rattle.frz_index.proofs.DigitByDigit.{AreAbsent}
use Rattle.frz_index.proofs.old.with_absent.Given as goal

abbrev pub invariant-loop-k : goal.invariant-loop-k
invariant-loop-k l = AreAbsent l.states l.least l.count l.start l.k l.number
