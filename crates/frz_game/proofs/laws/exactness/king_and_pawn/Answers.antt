use Rattle.frz_game.proofs.KingAndPawn.{leads_into_back}
use Rattle.frz_game.proofs.laws.exactness.king_and_pawn.Goals as goal

pub returns : goal.returns
returns c = leads_into_back
