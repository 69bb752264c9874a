use Rattle.std.proofs.Common.{length}
use Rattle.frz_journeys.proofs.journey.+play_on.Given as goal

abbrev pub decreases-play_on : goal.decreases-play_on
decreases-play_on g l = length l.before.now
