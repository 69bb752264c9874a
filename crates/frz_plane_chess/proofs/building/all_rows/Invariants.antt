use Rattle.std.proofs.Common.{◌≡◌, ◌<◌, ℕ, None, length}
use Rattle.std.specs.List.{slice_index_or}
use Rattle.frz_plane_chess.specs.Rows.{IsRow}
use Rattle.frz_plane_chess.proofs.building.all_rows.Given as goal

abbrev pub invariant-loop-c : goal.invariant-loop-c
invariant-loop-c g l = record {
  many : length l.rows.items ≡ l.c;
  rows : (d : ℕ) → d < l.c → IsRow l.configurations.rules.now (g.B.ExitBook.value_at l.book) d
      (slice_index_or l.rows.items d None);
}
