use Rattle.std.proofs.Common.{length}
use Rattle.frz_commands_inquiry.proofs.places.+write_behind.Given as goal

abbrev pub decreases-write_behind : goal.decreases-write_behind
decreases-write_behind g l = length l.backs.now
