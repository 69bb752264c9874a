use Rattle.frz_index.proofs.LeavingMoves.{outside_after}
use Rattle.frz_index.proofs.laws.leaving_moves.Goals as goal

pub returns : goal.returns
returns c gs p m valid low legal leaving member =
    outside_after gs p m valid low legal leaving member
