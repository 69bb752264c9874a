use Rattle.frz_configurations.proofs.PuttingTogether.{joined_none}
use Rattle.std.proofs.Common.{refl}
use Rattle.frz_configurations.proofs.joined.nothing.Goals as goal

pub returns : goal.returns
returns c white black = joined_none c.args.configuration white black _ refl refl refl
