use Rattle.std.proofs.Common.{◌≡◌, ◌≤◌, ◌-◌}
use Rattle.arrayvec.specs.ArrayString.{array_string_len}
use Rattle.frz_report.proofs.Classing.{below, letters_to}
use Rattle.frz_report.proofs.class.class_of.Given as goal

abbrev pub invariant-loop-cell : goal.invariant-loop-cell
invariant-loop-cell l = record {
  letters : l.class.bytes ≡ letters_to l.cells (l.cell - 1);
  few : array_string_len l.class ≤ below l.cell l.cells;
}
