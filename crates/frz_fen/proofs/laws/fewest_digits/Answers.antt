use Rattle.frz_fen.proofs.Shortest.{rank_shortest}
use Rattle.frz_fen.proofs.laws.fewest_digits.Goals as goal

pub returns : goal.returns
returns c part h = rank_shortest part h
