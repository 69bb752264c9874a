use Rattle.frz_arena.proofs.Comparing.Freer.{no_worse}
use Rattle.frz_arena.proofs.laws.comparing.no_worse.Goals as goal

pub returns : goal.returns
returns g c = no_worse
