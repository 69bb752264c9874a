use Rattle.std.proofs.Common.{◌+◌, ◌*◌, true, false, arith}
use Rattle.frz_plane_solver.proofs.NextTold.{IsNew, late_failure, late_win, same_told, solved_next}
use Rattle.frz_plane_solver.proofs.plies.advance.Goals as goal

pub returns-then-wins-clause-solved : goal.returns-then-wins-clause-solved
returns-then-wins-clause-solved g c =
    let game = c.args.game.now in
    let many = c.requires.solved.many in
    solved_next (g.G.PlaneGame.arena game) (g.G.PlaneGame.spots game)
    (g.met.G.PlaneGame.placed game c.requires.sound)
    (g.met.G.PlaneGame.finite game c.requires.sound).numbered.past c.args.side c.args.plies
    c.args.won.now c.args.lost.now c.add_ply-wins.new.decided c.add_ply-fails.new.decided
    c.args.codes.now c.add_ply-wins.new.codes c.add_ply-fails.new.codes c.requires.solved
    (omega arith) c.add_ply-wins.ensures.decided c.add_ply-fails.ensures.decided
    c.add_ply-wins.ensures.put c.add_ply-fails.ensures.put

pub returns-else-wins-clause-solved : goal.returns-else-wins-clause-solved
returns-else-wins-clause-solved g c =
    let game = c.args.game.now in
    let many = c.requires.solved.many in
    solved_next (g.G.PlaneGame.arena game) (g.G.PlaneGame.spots game)
    (g.met.G.PlaneGame.placed game c.requires.sound)
    (g.met.G.PlaneGame.finite game c.requires.sound).numbered.past c.args.side c.args.plies
    c.args.won.now c.args.lost.now c.add_ply-wins.new.decided c.add_ply-fails.new.decided
    c.args.codes.now c.add_ply-wins.new.codes c.add_ply-fails.new.codes c.requires.solved
    (omega arith) c.add_ply-wins.ensures.decided c.add_ply-fails.ensures.decided
    c.add_ply-wins.ensures.put c.add_ply-fails.ensures.put

pub returns-then-wins-clause-late : goal.returns-then-wins-clause-late
returns-then-wins-clause-late g c _ =
    late_win (g.G.PlaneGame.arena c.args.game.now) (g.G.PlaneGame.spots c.args.game.now).numbers
    c.args.side (c.args.plies + 1) c.args.codes.now c.add_ply-wins.new.codes
    c.add_ply-fails.new.codes c.add_ply-wins.ensures.put c.add_ply-fails.ensures.put
    (c.add_ply-wins.ensures.some c.if-wins.true)

pub returns-else-wins-clause-late : goal.returns-else-wins-clause-late
returns-else-wins-clause-late g c added =
    late_failure (g.G.PlaneGame.arena c.args.game.now)
    (g.G.PlaneGame.spots c.args.game.now).numbers c.args.side (c.args.plies + 1)
    c.add_ply-wins.new.codes c.add_ply-fails.new.codes c.add_ply-fails.ensures.put
    (c.add_ply-fails.ensures.some added)

pub returns-else-wins-clause-same : goal.returns-else-wins-clause-same
returns-else-wins-clause-same g c none =
    let arena = g.G.PlaneGame.arena c.args.game.now in
    let size = (g.G.PlaneGame.spots c.args.game.now).numbers in
    let n = c.args.plies + 1 in
    same_told arena c.args.side n (IsNew arena size c.args.side true n)
    (IsNew arena size c.args.side false n) (2 + 2 * n) (3 + 2 * n) c.args.codes.now
    c.add_ply-wins.new.codes c.add_ply-fails.new.codes c.requires.solved.told
    c.add_ply-wins.ensures.put c.add_ply-fails.ensures.put
    (λ i d. c.add_ply-wins.ensures.none c.if-wins.false i d.0 d.1)
    (λ i d. c.add_ply-fails.ensures.none none i d.0 d.1)
