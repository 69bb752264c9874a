use Rattle.std.proofs.Common.{◌-◌, arith}
use Rattle.frz_plane_solver.proofs.Unchanged.{never_next}
use Rattle.frz_plane_solver.proofs.reach.may_decide.Goals as goal

pub returns-then-win : goal.returns-then-win
returns-then-win g c off i l e =
    let game = c.args.game.now in
    let n = c.args.plies in
    never_next (g.G.PlaneGame.arena game) (g.G.PlaneGame.spots game)
    (g.met.G.PlaneGame.finite game c.requires.sound) c.args.side n (n - 1) (omega arith)
    c.args.marks.now c.args.win c.requires.last i (c.touches.ensures c.if-touches.false i l e)
    (λ _. c.wins_out.ensures off i l e)

pub returns-else-win : goal.returns-else-win
returns-else-win g c off i l e =
    let game = c.args.game.now in
    let n = c.args.plies in
    never_next (g.G.PlaneGame.arena game) (g.G.PlaneGame.spots game)
    (g.met.G.PlaneGame.finite game c.requires.sound) c.args.side n (n - 1) (omega arith)
    c.args.marks.now c.args.win c.requires.last i (c.touches.ensures c.if-touches.false i l e)
    (λ is. absurd (let is_not = off in cc))
