use Rattle.std.proofs.Common.{arith}
use Rattle.frz_arena.specs.Plies.{FailsWithin, WinsWithin}
use Rattle.frz_plane_solver.proofs.AllNumbers.{told_by_planes}
use Rattle.frz_plane_solver.proofs.NextTold.{first_told}
use Rattle.frz_plane_solver.proofs.plies.begin.Goals as goal

pub returns-clause-solved : goal.returns-clause-solved
returns-clause-solved g c =
    let game = c.args.game.now in
    let arena = g.G.PlaneGame.arena game in
    let spots = g.G.PlaneGame.spots game in
    let placed = g.met.G.PlaneGame.placed game c.requires.sound in
    let finite = g.met.G.PlaneGame.finite game c.requires.sound in
    let side = c.args.side in
    record {
      many = omega arith;
      wins = c.add_first.ensures.decided;
      failures = c.add_first-2.ensures.decided;
      told = first_told arena spots.numbers finite.numbered.past side c.args.codes.now
          c.add_live.new.codes c.add_first.new.codes c.add_first-2.new.codes c.requires.zero
          c.add_live.ensures.put c.add_first.ensures.put c.add_first-2.ensures.put
          (told_by_planes spots placed c.add_first.new.decided.planes.items (WinsWithin arena side 0)
          c.add_first.ensures.decided.numbers)
          (told_by_planes spots placed c.add_first-2.new.decided.planes.items
          (FailsWithin arena side 0) c.add_first-2.ensures.decided.numbers);
    }
