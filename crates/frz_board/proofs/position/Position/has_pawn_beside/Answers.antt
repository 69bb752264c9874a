use Rattle.std.proofs.Common.{◌<◌, arith}
use Rattle.frz_board.proofs.Neighbours.{beside_before, beside_after}
use Rattle.frz_board.proofs.position.Position.has_pawn_beside.Goals as goal

pub returns-then-has_pawn_before : goal.returns-then-has_pawn_before
returns-then-has_pawn_before c =
    let on_board : c.args.s < 64 = omega arith in
    beside_before c.args.self.now c.args.c c.args.s c.has_pawn_before.result on_board
    c.has_pawn_before.ensures c.if-has_pawn_before.true

pub returns-else-has_pawn_before : goal.returns-else-has_pawn_before
returns-else-has_pawn_before c =
    let on_board : c.args.s < 64 = omega arith in
    beside_after c.args.self.now c.args.c c.args.s c.has_pawn_before.result c.has_pawn_after.result
    on_board c.has_pawn_before.ensures c.if-has_pawn_before.false c.has_pawn_after.ensures
