use Rattle.std.proofs.Common.{◌∙◌, sym, ap, arith}
use Rattle.frz_board.specs.Shapes.{has_pawn}
use Rattle.frz_board.proofs.EndRanks.{ends_free, pawn_on_first, pawn_on_last}
use Rattle.frz_board.proofs.shape.pawns_inside.Goals as goal
use Rattle.frz_board.proofs.shape.pawns_inside.Goals.{then-pawn_on-via-then-pawn_on, then-pawn_on-via-else-pawn_on+then-pawn_on-2}

pub returns-then-pawn_on : goal.returns-then-pawn_on
returns-then-pawn_on c =
    elim c.then-pawn_on.branch [
      | then-pawn_on-via-then-pawn_on w ↦
          pawn_on_first c.args.p.now c.loop-file.file (omega arith)
          (ap (has_pawn c.args.p.now) (sym c.at.ensures)
          ∙ (sym c.pawn_on.ensures ∙ w.if-pawn_on.true))
      | then-pawn_on-via-else-pawn_on+then-pawn_on-2 w ↦
          pawn_on_last c.args.p.now c.loop-file.file (omega arith)
          (ap (has_pawn c.args.p.now) (sym w.at-else-pawn_on.ensures)
          ∙ (sym w.pawn_on-else-pawn_on.ensures ∙ w.if-pawn_on-2.true))
    ]

pub returns : goal.returns
returns c = ends_free c.args.p.now (λ f l. c.loop-file.invariant f (omega arith))
