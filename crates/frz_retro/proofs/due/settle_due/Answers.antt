use Rattle.std.proofs.Common.{◌≡◌, arith}
use Rattle.frz_retro.proofs.Tallies.{grows_on}
use Rattle.frz_retro.proofs.due.settle_due.Goals as goal

pub settle_if_due-requires-clause-work : goal.settle_if_due-requires-clause-work
settle_if_due-requires-clause-work g c =
    let w = c.requires.work in (w.0, w.1, c.loop-i.invariant.kept w.0 w.1 w.2)

pub loop-i-preserved : goal.loop-i-preserved
loop-i-preserved g c = record {
  kept =
      λ mid done w. c.settle_if_due.ensures.kept mid done (c.loop-i.invariant.kept mid done w);
  queue =
      grows_on c.args.tally.now c.loop-i.tally c.settle_if_due.new.tally c.loop-i.invariant.queue
      c.settle_if_due.ensures.queue;
}

pub returns-clause-kept : goal.returns-clause-kept
returns-clause-kept g c =
    let e : c.loop-i.i ≡ g.G.NumberedGame.count c.args.graph.now =
    let a = c.size-i-end.ensures in let b = c.loop-i.auto.i-end in let d = c.loop-i-test.false in
    omega (arith, a, b, d) in
    rw e at c.loop-i.invariant.kept
