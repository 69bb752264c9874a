use Rattle.std.proofs.Common.{length}
use Rattle.frz_commands_atlas.proofs.verdict_lines.+write_sizes.Given as goal

abbrev pub decreases-write_sizes : goal.decreases-write_sizes
decreases-write_sizes g l = length l.sizes.now
