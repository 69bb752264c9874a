use Rattle.frz_index.proofs.MovedMen.{NoneOfKinds}
use Rattle.frz_index.proofs.beside.is_touched.Given as goal

abbrev pub invariant-loop-i : goal.invariant-loop-i
invariant-loop-i l = NoneOfKinds l.group l.moved l.i
