use Rattle.std.proofs.Common.{refl, arith}
use Rattle.frz_plane_game.specs.Spots.{plane_at}
use Rattle.frz_plane_solver.specs.Marks.{marked_planes}
use Rattle.frz_plane_solver.proofs.Putting.{settle_all_end, settle_more}
use Rattle.frz_plane_solver.proofs.settle.settle_all.Goals as goal

pub loop-c-preserved : goal.loop-c-preserved
loop-c-preserved g c =
    let planes = marked_planes c.args.marked.now in
    settle_more (g.G.PlaneGame.spots c.args.game.now) planes c.loop-c.c
    (plane_at planes c.loop-c.c) c.args.code c.args.codes.now c.loop-c.codes
    c.settle_marked.new.codes refl c.loop-c.invariant c.settle_marked.ensures

pub returns : goal.returns
returns g c =
    settle_all_end (g.G.PlaneGame.spots c.args.game.now)
    (g.met.G.PlaneGame.placed c.args.game.now c.requires.sound) (marked_planes c.args.marked.now)
    c.args.code c.loop-c.c c.args.codes.now c.loop-c.codes (omega arith) c.loop-c.invariant
