use Rattle.std.proofs.Common.{◌↔◌, ◌∙◌, ℕ, true, false, ap, sym, subst}
use Rattle.std.specs.Prelude.{⊤}
use Rattle.std.specs.Bool.{IsTrue}
use Rattle.frz_board.specs.Men.{same_colour}
use Rattle.frz_board.specs.declared.man.Colour.{Colour}
use Rattle.frz_sets.specs.declared.exit.Value.{Value}
use Rattle.frz_arena.specs.declared.arm.Next.{Next}
use Rattle.frz_plane_game.specs.Spots.{IsTurnOf}
use Rattle.frz_plane_game.specs.Targets.{LeadsInto, SomeMove}
use Rattle.frz_plane_solver.specs.Decided.{MovesTo}
use Rattle.frz_plane_solver.proofs.Moves.{EachMove, each_leads, leads_or_not, one_leads}
use Rattle.frz_plane_solver.proofs.Numbers.{numbers_without, same_numbers}
use Rattle.frz_plane_solver.proofs.reach.reaching.Goals as goal

pub returns-then-seeks : goal.returns-then-seeks
returns-then-seeks g c =
    let game = c.args.game.now in
    let arena = g.G.PlaneGame.arena game in
    let spots = g.G.PlaneGame.spots game in
    let target = c.args.target.now in
    let side = target.side in
    let m = g.G.PlaneGame.turn game c.args.configuration in
    let own = c.is_own-own.result in
    let L : Next ℕ Value → Type 0 = LeadsInto arena spots target.planes.now side target.exits in
    same_numbers spots c.args.configuration c.leading.result
    (λ i. SomeMove arena own i (λ x. IsTrue true ↔ L x)) (MovesTo arena side c.args.win L)
    (λ i l e. one_leads arena spots.numbers (g.met.G.PlaneGame.finite game c.requires.sound) m side i
    (subst (λ (k : ℕ). IsTurnOf (g.G.PlaneGame.turn game k) (arena.node i)) e
    (g.met.G.PlaneGame.turns game c.requires.sound i l)) L own c.args.win
    (c.is_own-own.ensures ∙ ap (λ (z : Colour). same_colour z side) c.mover.ensures)
    (sym c.seeks.ensures ∙ c.if-seeks.true))
    c.leading.ensures

pub returns : goal.returns
returns g c =
    let game = c.args.game.now in
    let arena = g.G.PlaneGame.arena game in
    let spots = g.G.PlaneGame.spots game in
    let target = c.args.target.now in
    let side = target.side in
    let m = g.G.PlaneGame.turn game c.args.configuration in
    let own = c.is_own-own.result in
    let L : Next ℕ Value → Type 0 = LeadsInto arena spots target.planes.now side target.exits in
    same_numbers spots c.args.configuration c.without.new.self (λ i. EachMove arena own i L)
    (MovesTo arena side c.args.win L)
    (λ i l e. each_leads arena spots.numbers (g.met.G.PlaneGame.finite game c.requires.sound) m side i
    (subst (λ (k : ℕ). IsTurnOf (g.G.PlaneGame.turn game k) (arena.node i)) e
    (g.met.G.PlaneGame.turns game c.requires.sound i l)) L
    (leads_or_not arena spots target.planes.now side target.exits) own c.args.win
    (c.is_own-own.ensures ∙ ap (λ (z : Colour). same_colour z side) c.mover.ensures)
    (sym c.seeks.ensures ∙ c.if-seeks.false))
    (numbers_without spots (g.met.G.PlaneGame.placed game c.requires.sound) c.args.configuration
    c.moving-plane.result c.leading-2.result c.without.new.self
    (λ i. SomeMove arena own i (λ _. ⊤)) (λ i. SomeMove arena own i (λ x. IsTrue false ↔ L x))
    c.moving-plane.ensures c.leading-2.ensures c.without.ensures)
