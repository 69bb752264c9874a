use Rattle.std.proofs.Common.{◌≡◌, ◌⊎◌, ◌∙◌, ℕ, true, false, ap, sym, subst}
use Rattle.std.specs.Prelude.{⊤}
use Rattle.frz_board.specs.Men.{same_colour}
use Rattle.frz_board.specs.declared.man.Colour.{Colour}
use Rattle.frz_arena.specs.declared.node.Node.TheVariants.{Mate}
use Rattle.frz_plane_game.specs.Spots.{IsTurnOf}
use Rattle.frz_plane_game.specs.Targets.{SomeMove}
use Rattle.frz_plane_solver.specs.Decided.{Decided}
use Rattle.frz_plane_solver.proofs.NextNumbers.{none_at_once, other_at_once, own_at_once}
use Rattle.frz_plane_solver.proofs.Numbers.{numbers_joined, numbers_none, numbers_without, same_numbers}
use Rattle.frz_plane_solver.proofs.reach.decided_first.Goals as goal

pub returns-then-seeks : goal.returns-then-seeks
returns-then-seeks g c =
    let game = c.args.game.now in
    let arena = g.G.PlaneGame.arena game in
    let spots = g.G.PlaneGame.spots game in
    let side = c.args.side in
    let m = g.G.PlaneGame.turn game c.args.configuration in
    numbers_none spots (g.met.G.PlaneGame.placed game c.requires.sound) c.args.configuration
    c.empty.result (Decided arena side c.args.win 0)
    (λ i l e. none_at_once arena m side i
    (subst (λ (k : ℕ). IsTurnOf (g.G.PlaneGame.turn game k) (arena.node i)) e
    (g.met.G.PlaneGame.turns game c.requires.sound i l)) c.is_own-own.result c.args.win
    (c.is_own-own.ensures ∙ ap (λ (z : Colour). same_colour z side) c.mover.ensures)
    (sym c.seeks.ensures ∙ c.if-seeks.true))
    c.empty.ensures

pub returns-then-not-own : goal.returns-then-not-own
returns-then-not-own g c =
    let game = c.args.game.now in
    let arena = g.G.PlaneGame.arena game in
    let spots = g.G.PlaneGame.spots game in
    let side = c.args.side in
    let m = g.G.PlaneGame.turn game c.args.configuration in
    same_numbers spots c.args.configuration c.mated-plane.result (λ i. arena.node i ≡ Mate m)
    (Decided arena side c.args.win 0)
    (λ i l e. other_at_once arena m side i c.is_own-own.result c.args.win
    (c.is_own-own.ensures ∙ ap (λ (z : Colour). same_colour z side) c.mover.ensures)
    (sym c.seeks.ensures ∙ c.if-seeks.false) c.if-not-own.true)
    c.mated-plane.ensures

pub returns : goal.returns
returns g c =
    let game = c.args.game.now in
    let arena = g.G.PlaneGame.arena game in
    let spots = g.G.PlaneGame.spots game in
    let placed = g.met.G.PlaneGame.placed game c.requires.sound in
    let side = c.args.side in
    let k = c.args.configuration in
    let m = g.G.PlaneGame.turn game k in
    let all : ℕ → Type 0 = λ i. SomeMove arena false i (λ _. ⊤) in
    let free : ℕ → Type 0 = λ i. SomeMove arena true i (λ _. ⊤) in
    let mated : ℕ → Type 0 = λ i. arena.node i ≡ Mate m in
    same_numbers spots k c.union_with.new.self (λ i. mated i ⊎ (all i × (free i → ⊥)))
    (Decided arena side c.args.win 0)
    (λ i l e. own_at_once arena spots.numbers (g.met.G.PlaneGame.finite game c.requires.sound) m side
    i
    (subst (λ (z : ℕ). IsTurnOf (g.G.PlaneGame.turn game z) (arena.node i)) e
    (g.met.G.PlaneGame.turns game c.requires.sound i l)) c.is_own-own.result c.args.win
    (c.is_own-own.ensures ∙ ap (λ (z : Colour). same_colour z side) c.mover.ensures)
    (sym c.seeks.ensures ∙ c.if-seeks.false) c.if-not-own.false)
    (numbers_joined spots placed k c.mated-plane.result c.without.new.self c.union_with.new.self mated
    (λ i. all i × (free i → ⊥)) c.mated-plane.ensures
    (numbers_without spots placed k c.moving-bound.result c.moving.result c.without.new.self all free
    c.moving-bound.ensures c.moving.ensures c.without.ensures)
    c.union_with.ensures)
