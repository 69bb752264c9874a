use Rattle.std.proofs.Common.{length}
use Rattle.frz_commands_atlas.proofs.first_back.+first_found.Given as goal

abbrev pub decreases-first_found : goal.decreases-first_found
decreases-first_found l = length l.backs.now
