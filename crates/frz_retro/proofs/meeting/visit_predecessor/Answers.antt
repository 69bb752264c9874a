use Rattle.std.proofs.Common.{sym, ◌∙◌, arith}
use Rattle.frz_retro.specs.Shape.{shape_of}
use Rattle.frz_retro.proofs.Laws.{is_graph}
use Rattle.frz_retro.proofs.Meetings.{Told, told_from, Waits, meet_settled, meet_uncounted, meet_decides, meet_waits, meet_less, meet_last}
use Rattle.frz_retro.proofs.WorkFacts.{room_for}
use Rattle.frz_retro.proofs.meeting.visit_predecessor.Given.{Over}
use Rattle.frz_retro.proofs.meeting.visit_predecessor.Goals as goal
use Rattle.frz_retro.proofs.meeting.visit_predecessor.Goals.{After-is_counted-counted, Else-is_kind}

-- what the graph has told
told : (g : Over) (c : After-is_counted-counted g) →
    Told (shape_of (g.G.NumberedGame.arena c.args.graph.now)
    (g.G.NumberedGame.count c.args.graph.now)) c.args.side c.args.pred.now c.is_same-own.result
    c.is_counted-counted.result
told g c =
    told_from (is_graph (g.met.G.NumberedGame.finite c.args.graph.now c.requires.sound)
    (g.met.G.Graph.different c.args.graph.now c.requires.sound)) c.mover.ensures
    c.is_same-own.ensures c.is_counted-counted.ensures

-- the number waits for q
waits : (g : Over) (c : Else-is_kind g) →
    Waits c.is_same-own.result c.is_counted-counted.result c.args.tally.now.codes
    c.args.pred.now.number c.args.q
waits g c = record {
  counts = c.if-not-counted.false;
  open_ = sym c.code.ensures ∙ c.if-code-ne1.false;
  other = rw (c.is_kind.ensures, c.code-code.ensures) at c.if-is_kind.false;
}

pub returns-then-code-ne1-clause-kept : goal.returns-then-code-ne1-clause-kept
returns-then-code-ne1-clause-kept g c k mid done more m t =
    meet_settled m t (λ e. c.if-code-ne1.true (c.code.ensures ∙ e))

pub returns-then-not-counted-clause-kept : goal.returns-then-not-counted-clause-kept
returns-then-not-counted-clause-kept g c k mid done more m t =
    let at = goal.at.returns-then-not-counted-clause-kept g c in
    meet_uncounted m (told g at.After-is_counted-counted) t c.if-not-counted.true

pub settle-requires-clause-room : goal.settle-requires-clause-room
settle-requires-clause-room g c =
    room_for c.args.pred.now.number c.requires.meeting.3.work.queue
    (sym c.code.ensures ∙ c.if-code-ne1.false)

pub returns-then-is_kind-clause-kept : goal.returns-then-is_kind-clause-kept
returns-then-is_kind-clause-kept g c k mid done more m t =
    let at = goal.at.returns-then-is_kind-clause-kept g c in
    rw (c.settle.ensures, c.code-code.ensures)
    (meet_decides m (told g at.After-is_counted-counted) t c.if-not-counted.false
    (sym c.code.ensures ∙ c.if-code-ne1.false)
    (rw (c.is_kind.ensures, c.code-code.ensures) at c.if-is_kind.true))

pub count_down-requires-clause-some : goal.count_down-requires-clause-some
count_down-requires-clause-some g c =
    let at = goal.at.count_down-requires-clause-some g c in
    meet_waits c.requires.meeting.3 (told g at.After-is_counted-counted) (waits g at.Else-is_kind)

pub returns-then-count-gt0-clause-kept : goal.returns-then-count-gt0-clause-kept
returns-then-count-gt0-clause-kept g c k mid done more m t =
    let at = goal.at.returns-then-count-gt0-clause-kept g c in
    let e = rw c.count_down.ensures at c.count.ensures in
    let h = c.if-count-gt0.true in
    rw c.count_down.ensures
    (meet_less m (told g at.After-is_counted-counted) (waits g at.Else-is_kind) t
    (λ z. absurd (omega (arith, e, h, z))))

pub returns-then-later-code-clause-kept : goal.returns-then-later-code-clause-kept
returns-then-later-code-clause-kept g c k mid done more m t =
    let at = goal.at.returns-then-later-code-clause-kept g c in
    let e = rw c.count_down.ensures at c.later.ensures in
    let f = c.code-code.ensures in
    let h = c.if-later-code.true in
    rw c.count_down.ensures
    (meet_less m (told g at.After-is_counted-counted) (waits g at.Else-is_kind) t
    (λ _. omega (arith, e, f, h)))

pub settle-requires-2-clause-room : goal.settle-requires-2-clause-room
settle-requires-2-clause-room g c =
    rw c.count_down.ensures
    (room_for c.args.pred.now.number c.requires.meeting.3.work.queue
    (sym c.code.ensures ∙ c.if-code-ne1.false))

pub returns-clause-kept : goal.returns-clause-kept
returns-clause-kept g c k mid done more m t =
    let at = goal.at.returns-clause-kept g c in
    let a = rw c.count_down.ensures at c.count.ensures in
    let b = c.if-count-gt0.false in
    let e = rw c.count_down.ensures at c.later.ensures in
    let f = c.code-code.ensures in
    let h = c.if-later-code.false in
    rw (c.settle-2.ensures, c.count_down.ensures, c.code-code.ensures)
    (meet_last m (told g at.After-is_counted-counted) (waits g at.Else-is_kind) t
    (omega (arith, a, b)) (omega (arith, e, f, h)))
