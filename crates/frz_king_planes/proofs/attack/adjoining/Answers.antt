use Rattle.std.proofs.Common.{ap, ◌∙◌, arith}
use Rattle.frz_board.specs.Lines.{is_king_step}
use Rattle.frz_squares.specs.SquareSets.{has_square}
use Rattle.frz_squares.proofs.Lemmas.{has-set_of}
use Rattle.frz_king_planes.proofs.Rows.{row_more}
use Rattle.frz_king_planes.proofs.attack.adjoining.Goals as goal

pub loop-i-preserved : goal.loop-i-preserved
loop-i-preserved c =
    row_more (λ s t. is_king_step s t) c.loop-i.i c.king_set.result c.loop-i.row-items (omega arith)
    (λ t lt. ap (λ w. has_square w t) c.king_set.ensures
    ∙ has-set_of (λ b. is_king_step c.at.result b) t lt
    ∙ ap (λ j. is_king_step j t) c.at.ensures)
    c.loop-i.invariant
