use Rattle.std.proofs.Common.{◌∙◌, subst, arith}
use Rattle.frz_plane_game.specs.declared.target.Exits.{Exits}
use Rattle.frz_plane_game.specs.Spots.{HasNumbers}
use Rattle.frz_plane_game.specs.Targets.{LeadsInto}
use Rattle.frz_plane_solver.specs.Decided.{MovesTo}
use Rattle.frz_plane_solver.proofs.Filling.{same_plane}
use Rattle.frz_plane_solver.proofs.NextNumbers.{next_numbers}
use Rattle.frz_plane_solver.proofs.reach.decided_next.Goals as goal

pub returns : goal.returns
returns g c =
    let game = c.args.game.now in
    let arena = g.G.PlaneGame.arena game in
    let spots = g.G.PlaneGame.spots game in
    let planes = c.args.planes.now in
    let side = c.args.side in
    let finite = g.met.G.PlaneGame.finite game c.requires.sound in
    let placed = g.met.G.PlaneGame.placed game c.requires.sound in
    next_numbers arena spots finite placed side c.args.win c.args.plies planes c.requires.planes
    c.args.configuration c.requires.inside c.reaching-plane.result c.index-planes-configuration.result
    c.without.new.self (c.index-planes-configuration.is ∙ same_plane planes c.args.configuration
    c.index-planes-configuration.result (let l = c.requires.many in let m = c.requires.inside in omega arith))
    (subst (λ (z : Exits). HasNumbers spots c.args.configuration c.reaching-plane.result
    (MovesTo arena side c.args.win (LeadsInto arena spots planes side z))) c.exits_of.ensures
    c.reaching-plane.ensures)
    c.without.ensures
