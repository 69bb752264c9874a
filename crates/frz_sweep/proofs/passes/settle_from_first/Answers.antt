use Rattle.std.proofs.Common.{◌≡◌, ℕ, inl, inr, List, slice_index, sym, subst, arith}
use Rattle.frz_sweep.specs.Told.{AreTold}
use Rattle.frz_sweep.proofs.Reached.{reached_codes, few_plies}
use Rattle.frz_sweep.proofs.passes.settle_from_first.Goals as goal

pub returns-then-lag-ply-clause-codes : goal.returns-then-lag-ply-clause-codes
returns-then-lag-ply-clause-codes g c i =
    let A = g.G.NumberedGame.arena c.args.game.now in
    let codes = c.settle_all-changed.new.codes in
    let same : codes ≡ c.plies.codes = c.settle_all-changed.ensures.same c.if-not-changed.true in
    reached_codes A c.args.side c.plies.ply c.args.lag c.if-lag-ply.true c.requires.within codes
    (subst (λ (z : List ℕ). AreTold A c.args.side c.plies.ply z) (sym same) c.plies.invariant.told)
    c.settle_all-changed.ensures.told i

pub plies-preserved : goal.plies-preserved
plies-preserved g c = record {
  told = c.settle_all-changed.ensures.told;
  some = omega arith;
  later = omega (arith, c.plies.invariant.later, c.settle_all-changed.ensures.later);
  few = elim c.else-not-changed.either [
    | inl waits ↦ (let l = waits.1 in omega arith)
    | inr changes ↦ (
        let late = c.settle_all-changed.ensures.late changes c.plies.invariant.some in
        let few = few_plies (g.G.NumberedGame.arena c.args.game.now)
        (g.G.NumberedGame.count c.args.game.now)
        (g.met.G.NumberedGame.finite c.args.game.now c.requires.sound) c.args.side c.args.lag
        c.requires.within
        c.plies.ply late.0 (slice_index c.settle_all-changed.new.codes late.0)
        (c.settle_all-changed.ensures.told late.0) late.1 in
        omega arith)
  ];
}
