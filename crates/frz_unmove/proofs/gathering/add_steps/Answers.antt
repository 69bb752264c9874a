use Rattle.std.proofs.Common.{◌≡◌, ◌+◌, ◌<◌, ◌&&◌, None, true, arith, sym, ◌∙◌}
use Rattle.std.proofs.lemmas.Bool.{and_parts, both_ways}
use Rattle.frz_board.specs.Boards.{is_empty}
use Rattle.frz_squares.specs.SquareSets.{has_square}
use Rattle.frz_bits.specs.Words.{IsNext, HasNoneFrom}
use Rattle.frz_unmove.specs.declared.preds.Pred.{Pred}
use Rattle.frz_unmove.specs.Gathering.{ComesAt}
use Rattle.frz_unmove.specs.Quiet.{is_quiet_origin}
use Rattle.frz_unmove.proofs.Adding.{Below, adds_room, walk_next, walk_end}
use Rattle.frz_unmove.proofs.QuietOrigins.{comes_quiet, quiet_back}
use Rattle.frz_unmove.proofs.gathering.add_steps.Goals as goal
use Rattle.frz_unmove.proofs.gathering.add_steps.Goals.{After-quiet_origins-quiet}

-- each such move comes from a square of the word
covers : (c : After-quiet_origins-quiet) (x : Pred) →
    ComesAt c.args.set.now c.args.q.now c.args.to None 0 c.args.target.now x → x.mv.from < 64 →
    has_square c.quiet_origins-quiet.result x.mv.from ≡ true
covers c x h l =
    c.quiet_origins-quiet.ensures x.mv.from l
    ∙ comes_quiet c.args.set.now c.args.q.now c.args.to c.args.origins c.args.target.now
    c.args.ready.now
    c.requires.number.member.valid c.requires.ready c.requires.origins x h

pub add_step-requires-clause-quiet : goal.add_step-requires-clause-quiet
add_step-requires-clause-quiet c =
    let from = c.in-Some.from in
    let next : IsNext c.quiet_origins-quiet.result c.loop-from.n from = c.in-Some.ensures in
    let q = c.args.q.now in
    let parts = and_parts (has_square c.args.origins from)
    (is_empty q from && is_quiet_origin c.args.ready.now c.args.target.now c.args.to from)
    (sym (c.quiet_origins-quiet.ensures from next.on_board) ∙ next.there) in
    quiet_back q c.args.to c.args.ready.now c.requires.ready from
    (and_parts (is_empty q from) (is_quiet_origin c.args.ready.now c.args.target.now c.args.to from) parts.1).0

pub add_step-requires-clause-origin : goal.add_step-requires-clause-origin
add_step-requires-clause-origin c =
    let from = c.in-Some.from in
    let next : IsNext c.quiet_origins-quiet.result c.loop-from.n from = c.in-Some.ensures in
    let q = c.args.q.now in
    let parts = and_parts (has_square c.args.origins from)
    (is_empty q from && is_quiet_origin c.args.ready.now c.args.target.now c.args.to from)
    (sym (c.quiet_origins-quiet.ensures from next.on_board) ∙ next.there) in
    (and_parts (is_empty q from) (is_quiet_origin c.args.ready.now c.args.target.now c.args.to from) parts.1).1

pub add_step-requires-clause-room : goal.add_step-requires-clause-room
add_step-requires-clause-room c =
    let next : IsNext c.quiet_origins-quiet.result c.loop-from.n c.in-Some.from =
    c.in-Some.ensures in
    let on = next.on_board in
    let low = next.from in
    let room = c.requires.room in
    let more = adds_room
    (Below (ComesAt c.args.set.now c.args.q.now c.args.to None 0 c.args.target.now) (λ x. x.mv.from)
    c.loop-from.n) c.args.out.now c.loop-from.out c.loop-from.n c.loop-from.invariant.1 in
    omega (arith, on, low, room, more)

pub loop-from-preserved : goal.loop-from-preserved
loop-from-preserved c =
    let d = (goal.at.loop-from-preserved c).After-quiet_origins-quiet in
    let word = c.quiet_origins-quiet.result in
    let next : IsNext word c.loop-from.n c.in-Some.from = c.in-Some.ensures in
    let on = next.on_board in
    let low = next.from in
    let e = c.number-n.ensures.number in (
      omega (arith, on, e),
      walk_next (ComesAt c.args.set.now c.args.q.now c.args.to None 0 c.args.target.now) (λ x. x.mv.from)
          c.args.out.now c.loop-from.out c.add_step.new.out c.loop-from.n c.in-Some.from
          (c.number-n.result + 1) c.loop-from.n 1 (c.number-n.result + 1) c.loop-from.invariant.1
          c.add_step.ensures (omega (arith, low, e)) low (omega (arith, e))
          (λ x h l m. both_ways (has_square word x.mv.from) (next.first x.mv.from l m)
          (covers d x h (omega (arith, on, m)))),
    )

pub returns : goal.returns
returns c =
    let d = (goal.at.returns c).After-quiet_origins-quiet in
    let word = c.quiet_origins-quiet.result in
    let none : HasNoneFrom word c.loop-from.n = c.in_default.ensures in
    let within = c.loop-from.invariant.0 in
    walk_end (ComesAt c.args.set.now c.args.q.now c.args.to None 0 c.args.target.now) (λ x. x.mv.from)
    c.args.out.now c.loop-from.out c.loop-from.n c.loop-from.n 64 c.loop-from.invariant.1
    (omega (arith, within))
    (λ x h l. both_ways (has_square word x.mv.from)
    (none.none x.mv.from l h.0.0.0.0.step.from) (covers d x h h.0.0.0.0.step.from))
