use Rattle.frz_worked.proofs.PawnOverBack.{pawn_over_back}
use Rattle.frz_worked.proofs.laws.pawn_over_back.Goals as goal

pub returns : goal.returns
returns c = pawn_over_back
