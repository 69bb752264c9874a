use Rattle.std.proofs.Common.{◌≡◌, ◌+◌, ◌++◌, take, replicate}
use Rattle.arrayvec.specs.ArrayString.{array_string_len}
use Rattle.frz_report.proofs.Classing.{at}
use Rattle.frz_report.proofs.class.push_letters.Given as goal

abbrev pub invariant-loop-standing : goal.invariant-loop-standing
invariant-loop-standing l = record {
  letters : l.class.bytes ≡ l.fn.class.bytes ++ replicate
      (at l.cell (take l.standing-index l.cells)) l.letter;
  len : array_string_len l.class ≡ array_string_len l.fn.class + at l.cell
      (take l.standing-index l.cells);
}
