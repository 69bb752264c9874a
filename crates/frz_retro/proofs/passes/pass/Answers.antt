use Rattle.std.proofs.Common.{◌≡◌, ◌<◌, ◌||◌, ◌==◌, get_or, refl, ◌∙◌, ap, arith}
use Rattle.frz_retro.specs.Tallies.{AreComing, Tally}
use Rattle.frz_retro.specs.Work.{done_by, done_in}
use Rattle.frz_retro.proofs.Laws.{are_preds}
use Rattle.frz_retro.proofs.WorkFacts.{work_done}
use Rattle.frz_retro.proofs.QueueFront.{done_by_same, coming_from, came}
use Rattle.frz_retro.proofs.QueueOrder.{in_pass_still}
use Rattle.frz_retro.proofs.passes.pass.Given.{Over}
use Rattle.frz_retro.proofs.passes.pass.Goals as goal
use Rattle.frz_retro.proofs.passes.pass.Goals.{After-items}

pub settle_late-requires-clause-last : goal.settle_late-requires-clause-last
settle_late-requires-clause-last g c i l =
    let e = ap (λ (t : Tally). get_or t.later i 0) c.put_in_order.ensures.rest.lists in
    let h = c.requires.last i l in
    omega (arith, e, h)

pub settle_late-requires-clause-work : goal.settle_late-requires-clause-work
settle_late-requires-clause-work g c =
    let t = c.args.tally.now in
    let u = c.put_in_order.new.self in (
      t.tail,
      done_in u.queue c.args.head,
      in_pass_still c.args.head t u c.requires.work c.requires.head c.put_in_order.ensures.rest
          c.put_in_order.ensures.same,
    )

pub loop-at-init : goal.loop-at-init
loop-at-init g c =
    let t = c.args.tally.now in
    let u = c.put_in_order.new.self in
    let v = c.settle_late.new.tally in
    let stays = c.put_in_order.ensures.rest.lists in
    let grew = c.settle_late.ensures.queue in
    let tails = ap (λ (x : Tally). x.tail) stays in
    record {
      kept =
          work_done
          (c.settle_late.ensures.kept t.tail (done_in u.queue c.args.head)
          (in_pass_still c.args.head t u c.requires.work c.requires.head
          c.put_in_order.ensures.rest c.put_in_order.ensures.same))
          (λ i q. done_by_same u.queue v.queue c.args.head q
          (λ j l. let h = c.requires.head in grew.2 j (omega (arith, l, h, tails))));
      tail = let h = grew.1 in omega (arith, h, tails);
      exits = grew.0 ∙ ap (λ (x : Tally). x.later) stays;
      cost = omega arith;
    }

within : (g : Over) (c : After-items g) → c.loop-at.at < c.args.tally.now.tail
within g c =
    let e = c.tail-end.ensures in
    let tails = ap (λ (x : Tally). x.tail) c.put_in_order.ensures.rest.lists in
    let h = c.loop-at-test.true in
    omega (arith, e, tails, h)

-- the number at this place of the queue is met next
coming : (g : Over) (c : After-items g) →
    AreComing (g.G.NumberedGame.arena c.args.graph.now) (g.G.NumberedGame.count c.args.graph.now)
    c.args.side c.args.k c.args.tally.now.tail (done_in c.loop-at.tally.queue c.loop-at.at)
    c.loop-at.tally c.queued-q.result c.items.result.now
coming g c =
    rw (c.queued-q.ensures, c.items.ensures)
    (coming_from c.loop-at.at c.loop-at.invariant.kept (within g c)
    (rw c.queued-q.ensures at (are_preds
    (g.met.G.NumberedGame.finite c.args.graph.now c.requires.sound) c.preds.ensures.all
    c.preds.ensures.once)))

pub go_through-requires-clause-coming : goal.go_through-requires-clause-coming
go_through-requires-clause-coming g c =
    let at = (goal.at.go_through-requires-clause-coming g c).After-items in
    (c.args.k, c.args.tally.now.tail, done_in c.loop-at.tally.queue c.loop-at.at, coming g at)

pub loop-at-preserved : goal.loop-at-preserved
loop-at-preserved g c =
    let at = (goal.at.loop-at-preserved g c).After-items in
    let t = c.loop-at.tally in
    let grew = c.go_through.ensures.queue in
    let room = c.loop-at.invariant.tail in
    record {
      kept =
          let more = c.go_through.ensures.kept c.args.k c.args.tally.now.tail
          (done_in t.queue c.loop-at.at)
          (λ _ r. done_by t.queue c.loop-at.at r || (c.queued-q.result == r)) (coming g at)
          (λ i r. refl) in
          came c.loop-at.at t.queue (rw c.queued-q.ensures at more)
          (λ j h. let l = within g at in grew.2 j (omega (arith, h, room, l)));
      tail = let h = grew.1 in omega (arith, h, room);
      exits = grew.0 ∙ c.loop-at.invariant.exits;
      cost = let x = c.loop-at.invariant.cost in let y = c.preds.ensures.step in
          let h = c.loop-at.auto.at in omega (arith, x, y, h);
    }

pub returns-clause-kept : goal.returns-clause-kept
returns-clause-kept g c =
    let e : c.loop-at.at ≡ c.args.tally.now.tail = let h = c.requires.head in
    let t = c.tail-end.ensures in let a = c.loop-at.auto.at-end in
    let s = ap (λ (x : Tally). x.tail) c.put_in_order.ensures.rest.lists in
    let b = c.loop-at-test.false in omega (arith, h, t, s, a, b) in
    rw e at c.loop-at.invariant.kept
