use Rattle.std.proofs.Common.{length}
use Rattle.frz_commands_atlas.proofs.row_lines.+write_rows.Given as goal

abbrev pub decreases-write_rows : goal.decreases-write_rows
decreases-write_rows g l = length l.rows.now
