use Rattle.std.proofs.Common.{refl}
use Rattle.frz_configurations.proofs.TakingApart.{parted_none}
use Rattle.frz_configurations.proofs.parts.whole.Goals as goal

pub returns : goal.returns
returns c = parted_none c.args.number _ refl refl refl
