use Rattle.frz_worked.proofs.PawnBackText.{pawn_read, pawn_back_read, pawn_back_table}
use Rattle.frz_worked.proofs.laws.pawn_back_text.Goals as goal

pub returns-clause-pawn : goal.returns-clause-pawn
returns-clause-pawn c = pawn_read

pub returns-clause-read : goal.returns-clause-read
returns-clause-read c = pawn_back_read

pub returns-clause-exact : goal.returns-clause-exact
returns-clause-exact c = pawn_back_table
