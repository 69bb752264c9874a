use Rattle.frz_worked_chess.proofs.moves.+leaves.Given as goal

abbrev pub decreases-leaves : goal.decreases-leaves
decreases-leaves g l = l.plies
