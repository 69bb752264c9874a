use Rattle.std.proofs.Common.{◌+◌, arith}
use Rattle.std.proofs.lemmas.Bool.{both_ways}
use Rattle.frz_squares.specs.SquareSets.{has_square}
use Rattle.frz_bits.specs.Words.{IsNext, HasNoneFrom}
use Rattle.frz_unmove.specs.Gathering.{ComesAt}
use Rattle.frz_unmove.proofs.Adding.{Below, adds_room, walk_next, walk_end}
use Rattle.frz_unmove.proofs.gathering.add_tested.Goals as goal

pub add_named-requires-clause-room : goal.add_named-requires-clause-room
add_named-requires-clause-room c =
    let arrival = c.args.end.now in
    let next : IsNext c.args.origins c.loop-from.n c.in-Some.from = c.in-Some.ensures in
    let on = next.on_board in
    let low = next.from in
    let room = c.requires.room in
    let more = adds_room
    (Below (ComesAt c.args.set.now c.args.q.now arrival.to arrival.promo c.args.end.now.taken
    c.args.target.now) (λ x. x.mv.from) c.loop-from.n) c.args.out.now c.loop-from.out
    c.loop-from.n c.loop-from.invariant.1 in
    omega (arith, on, low, room, more)

pub loop-from-preserved : goal.loop-from-preserved
loop-from-preserved c =
    let arrival = c.args.end.now in
    let next : IsNext c.args.origins c.loop-from.n c.in-Some.from = c.in-Some.ensures in
    let on = next.on_board in
    let low = next.from in
    let e = c.number-n.ensures.number in (
      omega (arith, on, e),
      walk_next (ComesAt c.args.set.now c.args.q.now arrival.to arrival.promo c.args.end.now.taken
          c.args.target.now) (λ x. x.mv.from) c.args.out.now c.loop-from.out c.add_named.new.out
          c.loop-from.n c.in-Some.from (c.number-n.result + 1) c.loop-from.n 1
          (c.number-n.result + 1) c.loop-from.invariant.1 c.add_named.ensures
          (omega (arith, low, e)) low (omega (arith, e))
          (λ x h l m. both_ways (has_square c.args.origins x.mv.from) (next.first x.mv.from l m)
          (c.requires.origins x h.0.0)),
    )

pub returns : goal.returns
returns c =
    let arrival = c.args.end.now in
    let none : HasNoneFrom c.args.origins c.loop-from.n = c.in_default.ensures in
    let within = c.loop-from.invariant.0 in
    walk_end (ComesAt c.args.set.now c.args.q.now arrival.to arrival.promo c.args.end.now.taken
    c.args.target.now) (λ x. x.mv.from) c.args.out.now c.loop-from.out c.loop-from.n c.loop-from.n
    64 c.loop-from.invariant.1 (omega (arith, within))
    (λ x h l. both_ways (has_square c.args.origins x.mv.from)
    (none.none x.mv.from l h.0.0.0.0.step.from) (c.requires.origins x h.0.0))
