use Rattle.std.proofs.Common.{◌+◌, drop, refl, ◌∙◌, arith}
use Rattle.std.proofs.lemmas.List.{drop_all}
use Rattle.frz_retro.specs.Work.{done_mid}
use Rattle.frz_retro.proofs.Pairs.{through_begins, through_at, through_more, through_ends}
use Rattle.frz_retro.proofs.Tallies.{grows_on}
use Rattle.frz_retro.proofs.meeting.go_through.Goals as goal

pub loop-pred-init : goal.loop-pred-init
loop-pred-init g c = let t = c.args.tally.now in record {
  kept = λ k mid done m. through_begins m;
  settled = λ r h. refl;
  queue = (refl, omega arith, λ j l. refl);
}

pub visit_predecessor-requires-clause-meeting : goal.visit_predecessor-requires-clause-meeting
visit_predecessor-requires-clause-meeting g c =
    let r = c.requires.coming in
    let done = done_mid r.2 c.args.q (drop c.loop-pred.pred-index c.args.preds.now) in (
      r.0,
      r.1,
      done,
      rw c.pred-item.is
          (through_at c.loop-pred.pred-index c.pred-item.result r.3 c.loop-pred-test.true
          (c.loop-pred.invariant.settled c.args.q r.3.settled)
          (c.loop-pred.invariant.kept r.0 r.1 r.2 r.3)),
    )

pub loop-pred-preserved : goal.loop-pred-preserved
loop-pred-preserved g c = record {
  kept = λ k mid done m.
      let before = done_mid done c.args.q (drop c.loop-pred.pred-index c.args.preds.now) in
      let after = done_mid done c.args.q (drop (c.loop-pred.pred-index + 1) c.args.preds.now) in
      c.visit_predecessor.ensures.kept k mid before after
      (rw c.pred-item.is
      (through_at c.loop-pred.pred-index c.pred-item.result m c.loop-pred-test.true
      (c.loop-pred.invariant.settled c.args.q m.settled) (c.loop-pred.invariant.kept k mid done m)))
      (rw c.pred-item.is
      (through_more c.loop-pred.pred-index c.pred-item.result m c.loop-pred-test.true));
  settled =
      λ r h. let e =
      c.loop-pred.invariant.settled r h in c.visit_predecessor.ensures.settled r (omega (arith, e, h)) ∙ e;
  queue =
      grows_on c.args.tally.now c.loop-pred.tally c.visit_predecessor.new.tally c.loop-pred.invariant.queue
      c.visit_predecessor.ensures.queue;
}

pub returns-clause-kept : goal.returns-clause-kept
returns-clause-kept g c k mid done more m h =
    through_ends done c.args.q
    (rw (drop_all c.loop-pred.pred-index c.args.preds.now c.loop-pred-test.false)
    at (c.loop-pred.invariant.kept k mid done m)) h
