use Rattle.std.proofs.Common.{get_or, List, ℕ, ◌∙◌, ap, refl, arith}
use Rattle.frz_retro.proofs.PassToPass.{first_work, pass_begins, all_local, few_passes}
use Rattle.frz_retro.proofs.passes.passes.Goals as goal
use Rattle.frz_retro.proofs.passes.passes.Goals.{then-head-tail, else-head-tail+then-k-last}

pub passes-init : goal.passes-init
passes-init g c = let t = c.args.tally.now in record {
  kept = first_work c.requires.begun;
  tail = c.tail-tail.ensures;
  exits = refl;
  early = omega arith;
  cost = omega arith;
  later = omega arith;
}

pub pass-requires-clause-work : goal.pass-requires-clause-work
pass-requires-clause-work g c =
    let t = c.passes.tally in
    let w = c.passes.invariant.kept in
    let f = few_passes w in
    let small = (g.met.G.NumberedGame.finite c.args.graph.now c.requires.sound).few in
    let early = c.passes.invariant.early in
    pass_begins c.passes.head w (omega (arith, f.0, f.1, small, early))

pub pass-requires-clause-last : goal.pass-requires-clause-last
pass-requires-clause-last g c i l =
    let e = ap (λ (xs : List ℕ). get_or xs i 0) c.passes.invariant.exits in
    let h = c.requires.last i l in
    omega (arith, e, h)

pub passes-preserved : goal.passes-preserved
passes-preserved g c =
    let i = c.passes.invariant in
    let e = i.tail in
    let f = few_passes i.kept in
    let cost = c.pass.ensures.cost in
    record {
      kept = rw e c.pass.ensures.kept;
      tail = c.tail-tail-in-passes.ensures;
      exits = c.pass.ensures.exits ∙ i.exits;
      early =
          let h = i.early in
          elim c.if-head-tail.branch [
            | then-head-tail w ↦ let a = w.if-head-tail.true in omega (arith, h, a)
            | else-head-tail+then-k-last w ↦ let a =
                w.if-k-last.true in let b = c.requires.short in omega (arith, a, b)
          ];
      cost = let h = i.cost in omega (arith, cost, h, e, f.0);
      later = let h = i.later in omega (arith, cost, h);
    }

pub returns-clause-exact : goal.returns-clause-exact
returns-clause-exact g c =
    let t = c.passes.tally in
    let w = c.passes.invariant.kept in
    let e = c.passes.invariant.tail in
    let a = c.if-head-tail.false in
    record {
      many = w.sized.codes;
      local =
          all_local c.passes.head
          (c.local_codes.ensures (g.G.NumberedGame.arena c.args.graph.now)
          (g.G.NumberedGame.count c.args.graph.now)
          (g.met.G.NumberedGame.finite c.args.graph.now c.requires.sound) c.args.side t.codes) w
          (omega (arith, e, a))
          (λ j m.
          let same = ap (λ (xs : List ℕ). get_or xs j 0) c.passes.invariant.exits in
          let x = c.requires.last j m in
          let y = c.if-k-last.false in
          omega (arith, same, x, y));
    }
