use Rattle.std.proofs.Common.{◌+◌, ◌++◌, ◌∙◌, length, ap, sym, arith}
use Rattle.frz_bits.specs.Words.{IsNext}
use Rattle.frz_fide.specs.SquareBySquare.{legal_from}
use Rattle.frz_fide.proofs.Order.{all_below, all_below-next, all_below-room}
use Rattle.frz_fide.proofs.Targets.{off_side, on_side, all_next, all_end}
use Rattle.frz_fide.proofs.moves.put_all.Goals as goal

pub add_square-requires-clause-own : goal.add_square-requires-clause-own
add_square-requires-clause-own c =
    let next : IsNext c.side-own.result c.loop-from.n c.in-Some.from = c.in-Some.ensures in
    on_side c.args.p.now c.side-own.result c.turn.result c.side-own.ensures c.turn.ensures
    c.in-Some.from next.on_board next.there

pub add_square-requires-clause-room : goal.add_square-requires-clause-room
add_square-requires-clause-room c =
    let next : IsNext c.side-own.result c.loop-from.n c.in-Some.from = c.in-Some.ensures in
    let here = all_next c.args.p.now c.side-own.result
    (off_side c.args.p.now c.side-own.result c.turn.result c.side-own.ensures c.turn.ensures)
    c.loop-from.n c.in-Some.from c.loop-from.list.items c.loop-from.invariant.1 next in
    let room = all_below-room c.args.p.now c.in-Some.from next.on_board in
    let all = c.requires.room in
    omega (arith, ap length here)

pub loop-from-preserved : goal.loop-from-preserved
loop-from-preserved c =
    let next : IsNext c.side-own.result c.loop-from.n c.in-Some.from = c.in-Some.ensures in
    let on = next.on_board in
    let here = all_next c.args.p.now c.side-own.result
    (off_side c.args.p.now c.side-own.result c.turn.result c.side-own.ensures c.turn.ensures)
    c.loop-from.n c.in-Some.from c.loop-from.list.items c.loop-from.invariant.1 next in (
      omega arith,
      c.add_square.ensures ∙ ap (λ xs. xs ++ legal_from c.args.p.now c.in-Some.from) here
          ∙ sym (all_below-next c.args.p.now c.in-Some.from next.on_board)
          ∙ ap (λ n. all_below c.args.p.now (n + 1)) (sym c.number-n.ensures.number),
    )

pub returns : goal.returns
returns c =
    all_end c.args.p.now c.side-own.result
    (off_side c.args.p.now c.side-own.result c.turn.result c.side-own.ensures c.turn.ensures)
    c.loop-from.n c.loop-from.list.items c.loop-from.invariant.0 c.loop-from.invariant.1
    c.in_default.ensures
