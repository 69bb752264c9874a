use Rattle.frz_arena.proofs.Ways.LinesEnd.{line_ends}
use Rattle.frz_arena.proofs.laws.lines.lines_end.Goals as goal

pub returns : goal.returns
returns g c = line_ends
