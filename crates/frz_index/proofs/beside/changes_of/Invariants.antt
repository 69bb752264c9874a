use Rattle.std.proofs.Common.{◌≤◌, ◌*◌, take}
use Rattle.frz_index.proofs.DigitsBeside.{AreCoveredAfter}
use Rattle.frz_index.proofs.NumbersAfterSteps.{Shifted}
use Rattle.frz_index.proofs.beside.changes_of.Given as goal

abbrev pub invariant-loop-i : goal.invariant-loop-i
invariant-loop-i l = record {
  shifted : Shifted l.groups l.p l.q 0 0 0 l.i l.after l.before;
  small_before : l.before ≤ l.i * 134217728;
  small_after : l.after ≤ l.i * 134217728;
  squares : AreCoveredAfter l.p l.q (take l.i l.groups) l.squares;
}
