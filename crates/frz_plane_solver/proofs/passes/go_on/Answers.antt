use Rattle.std.proofs.Common.{◌+◌, inl, inr, slice_index, arith}
use Rattle.frz_sweep.proofs.Lemmas.{few_plies, reached_codes}
use Rattle.frz_plane_solver.proofs.passes.go_on.Goals as goal

pub advance-added-requires-clause-few : goal.advance-added-requires-clause-few
advance-added-requires-clause-few g c =
    let finite = g.met.G.PlaneGame.finite c.args.game.now c.requires.sound in
    let size = finite.few in
    omega (arith, size, c.plies.invariant.few)

pub returns-then-lag-plies : goal.returns-then-lag-plies
returns-then-lag-plies g c i =
    reached_codes (g.G.PlaneGame.arena c.args.game.now) c.args.side (c.plies.plies + 1) c.args.lag
    (omega arith) c.requires.within c.advance-added.new.codes
    (c.advance-added.ensures.same c.if-not-added.true) c.advance-added.ensures.solved.told i

pub plies-preserved : goal.plies-preserved
plies-preserved g c = record {
  solved = c.advance-added.ensures.solved;
  room = c.advance-added.ensures.room;
  few = elim c.else-not-added.either [
    | inl waits ↦ (let l = waits.1 in omega arith)
    | inr added ↦ (
        let late = c.advance-added.ensures.late added in
        let few = few_plies (g.G.PlaneGame.arena c.args.game.now)
        (g.G.PlaneGame.spots c.args.game.now).numbers
        (g.met.G.PlaneGame.finite c.args.game.now c.requires.sound) c.args.side c.args.lag
        c.requires.within (c.plies.plies + 1) late.0
        (slice_index c.advance-added.new.codes late.0)
        (c.advance-added.ensures.solved.told late.0) late.1 in
        omega arith)
  ];
}
