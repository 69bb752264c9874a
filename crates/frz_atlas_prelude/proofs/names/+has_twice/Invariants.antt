use Rattle.std.proofs.Common.{length}
use Rattle.frz_atlas_prelude.proofs.names.+has_twice.Given as goal

abbrev pub decreases-has_twice : goal.decreases-has_twice
decreases-has_twice l = length l.words.now
