use Rattle.frz_game.proofs.KingAndRook.{rook_exact}
use Rattle.frz_game.proofs.laws.exactness.king_and_rook.Goals as goal

pub returns : goal.returns
returns c = rook_exact
