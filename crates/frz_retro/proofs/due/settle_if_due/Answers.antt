use Rattle.std.proofs.Common.{sym, ◌∙◌, arith}
use Rattle.frz_retro.specs.Shape.{shape_of}
use Rattle.frz_retro.proofs.DueNumbers.{IsDue, due_settled, due_early, due_later, due_kind, due_waits, due_last}
use Rattle.frz_retro.proofs.Laws.{own_is}
use Rattle.frz_retro.proofs.WorkFacts.{room_for}
use Rattle.frz_retro.proofs.due.settle_if_due.Given.{Over}
use Rattle.frz_retro.proofs.due.settle_if_due.Goals as goal
use Rattle.frz_retro.proofs.due.settle_if_due.Goals.{After-is_same-own}

-- the number is due
due : (g : Over) (c : After-is_same-own g) →
    IsDue (shape_of (g.G.NumberedGame.arena c.args.graph.now)
    (g.G.NumberedGame.count c.args.graph.now)) c.args.side c.args.k c.args.tally.now.codes
    c.args.tally.now.later c.args.i c.is_same-own.result
due g c = record {
  own_is = own_is c.args.side c.mover.ensures c.is_same-own.ensures;
  inside = c.requires.inside;
  open_ = sym c.code.ensures ∙ c.if-code-ne1.false;
  least = let e = c.later-code.ensures in let h = c.if-code-k.false in omega (arith, e, h);
  most = let e = c.later-code.ensures in let h = c.if-code-k-2.false in omega (arith, e, h);
}

pub returns-then-code-ne1-clause-kept : goal.returns-then-code-ne1-clause-kept
returns-then-code-ne1-clause-kept g c mid done w =
    due_settled c.args.i w (λ e. c.if-code-ne1.true (c.code.ensures ∙ e))

pub returns-then-code-k-clause-kept : goal.returns-then-code-k-clause-kept
returns-then-code-k-clause-kept g c mid done w =
    due_early c.args.i w
    (let e = c.later-code.ensures in let h = c.if-code-k.true in omega (arith, e, h))

pub returns-then-code-k-2-clause-kept : goal.returns-then-code-k-2-clause-kept
returns-then-code-k-2-clause-kept g c mid done w =
    due_later c.args.i w
    (let e = c.later-code.ensures in let h = c.if-code-k-2.true in omega (arith, e, h))

pub settle-requires-clause-room : goal.settle-requires-clause-room
settle-requires-clause-room g c =
    room_for c.args.i c.requires.work.2.queue (sym c.code.ensures ∙ c.if-code-ne1.false)

pub returns-then-is_kind-clause-kept : goal.returns-then-is_kind-clause-kept
returns-then-is_kind-clause-kept g c mid done w =
    let at = goal.at.returns-then-is_kind-clause-kept g c in
    rw (c.settle.ensures, c.later-code.ensures)
    (due_kind c.args.i w (due g at.After-is_same-own)
    (rw (c.is_kind.ensures, c.later-code.ensures) at c.if-is_kind.true))

pub returns-then-count-gt0-clause-kept : goal.returns-then-count-gt0-clause-kept
returns-then-count-gt0-clause-kept g c mid done w =
    let at = goal.at.returns-then-count-gt0-clause-kept g c in
    due_waits c.args.i w (due g at.After-is_same-own)
    (rw (c.is_kind.ensures, c.later-code.ensures) at c.if-is_kind.false)
    (let e = c.count.ensures in let h = c.if-count-gt0.true in omega (arith, e, h))

pub settle-requires-2-clause-room : goal.settle-requires-2-clause-room
settle-requires-2-clause-room g c =
    room_for c.args.i c.requires.work.2.queue (sym c.code.ensures ∙ c.if-code-ne1.false)

pub returns-clause-kept : goal.returns-clause-kept
returns-clause-kept g c mid done w =
    let at = goal.at.returns-clause-kept g c in
    rw (c.settle-2.ensures, c.later-code.ensures)
    (due_last c.args.i w (due g at.After-is_same-own)
    (rw (c.is_kind.ensures, c.later-code.ensures) at c.if-is_kind.false)
    (let e = c.count.ensures in let h = c.if-count-gt0.false in omega (arith, e, h)))
