use Rattle.frz_board.specs.Lines.{is_king_step}
use Rattle.frz_king_planes.proofs.Rows.{AreRows}
use Rattle.frz_king_planes.proofs.attack.adjoining.Given as goal

abbrev pub invariant-loop-i : goal.invariant-loop-i
invariant-loop-i l = AreRows (λ s t. is_king_step s t) l.i l.row-items
