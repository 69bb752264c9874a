use Rattle.std.proofs.Common.{◌≡◌, ◌≤◌, ◌+◌, ◌*◌, ◌++◌}
use Rattle.arrayvec.specs.ArrayString.{array_string_len}
use Rattle.frz_fen.specs.Writing.{ranks_text}
use Rattle.frz_fen.proofs.writing.write_placement.Given as goal

abbrev pub invariant-loop-rank : goal.invariant-loop-rank
invariant-loop-rank l = record {
  few : l.rank ≤ 7;
  written : l.text.bytes ++ ranks_text l.cells l.rank ≡ ranks_text l.cells 7;
  short : array_string_len l.text + 9 * l.rank ≤ 63;
}

abbrev pub decreases-loop-rank : goal.decreases-loop-rank
decreases-loop-rank l = l.rank
