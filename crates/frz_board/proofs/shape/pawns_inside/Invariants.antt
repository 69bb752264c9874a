use Rattle.frz_board.proofs.EndRanks.{HasFreeEnds}
use Rattle.frz_board.proofs.shape.pawns_inside.Given as goal

abbrev pub invariant-loop-file : goal.invariant-loop-file
invariant-loop-file l = HasFreeEnds l.p l.file
