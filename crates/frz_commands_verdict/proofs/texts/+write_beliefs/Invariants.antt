use Rattle.std.proofs.Common.{length}
use Rattle.frz_commands_verdict.proofs.texts.+write_beliefs.Given as goal

abbrev pub decreases-write_beliefs : goal.decreases-write_beliefs
decreases-write_beliefs g l = length l.lines.now
