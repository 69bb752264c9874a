use Rattle.frz_arena.proofs.Exactness.ExactWins.{more_wins_mate}
use Rattle.frz_arena.proofs.laws.exactness.plies_add.Goals as goal

pub returns : goal.returns
returns g c = more_wins_mate
