use Rattle.frz_game.proofs.TrueAtEnds.{true_at_mate, true_at_stalemate}
use Rattle.frz_game.proofs.laws.exits.true_at_ends.Goals as goal

pub returns-clause-mate : goal.returns-clause-mate
returns-clause-mate c = true_at_mate

pub returns-clause-stalemate : goal.returns-clause-stalemate
returns-clause-stalemate c = true_at_stalemate
