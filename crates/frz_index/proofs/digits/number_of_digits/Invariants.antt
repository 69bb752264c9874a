use Rattle.std.specs.Prelude.{take}
use Rattle.frz_index.specs.Places.{AreCovered}
use Rattle.frz_index.proofs.GroupSteps.{Left}
use Rattle.frz_index.proofs.digits.number_of_digits.Given as goal

abbrev pub invariant-loop-i : goal.invariant-loop-i
invariant-loop-i l =
    record {
      left : Left l.p l.groups l.i l.total;
      squares : AreCovered l.p (take l.i l.groups)
          l.covered;
    }
