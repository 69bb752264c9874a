use Rattle.frz_san.proofs.Signs.{one_move}
use Rattle.frz_san.proofs.laws.one_move.Goals as goal

pub returns : goal.returns
returns c = one_move
