use Rattle.std.proofs.Common.{◌≡◌, ◌≤◌, take, true}
use Rattle.std.specs.List.{list_all}
use Rattle.arrayvec.specs.ArrayVec.{array_vec_len}
use Rattle.frz_fen.specs.Placement.{rank_cells, is_gap_or_man}
use Rattle.frz_fen.proofs.placement.read_rank.Given as goal

abbrev pub invariant-loop-byte : goal.invariant-loop-byte
invariant-loop-byte l = record {
  cells : l.row.items ≡ rank_cells (take l.byte-index l.part);
  bytes : list_all is_gap_or_man (take l.byte-index l.part) ≡ true;
  room : array_vec_len l.row ≤ 8;
}
