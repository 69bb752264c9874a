use Rattle.std.proofs.Common.{◌≡◌, ◌≤◌, ◌+◌, ◌++◌, replicate, drop}
use Rattle.arrayvec.specs.ArrayString.{array_string_len}
use Rattle.frz_fen.specs.Writing.{rank_text}
use Rattle.frz_fen.proofs.writing.write_rank.Given as goal

abbrev pub invariant-loop-cell : goal.invariant-loop-cell
invariant-loop-cell l = record {
  written : l.text.bytes ++ rank_text (replicate l.gap 0 ++ drop l.cell-index l.row)
      ≡ l.initial.text.bytes ++ rank_text l.row;
  gap : l.gap ≤ l.cell-index;
  short : array_string_len l.text + l.gap ≤ array_string_len l.initial.text + l.cell-index;
}
