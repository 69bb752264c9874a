use Rattle.std.proofs.Common.{◌+◌, ◌++◌, ◌∙◌, length, ap, sym, arith}
use Rattle.frz_bits.specs.Words.{IsNext}
use Rattle.frz_board.specs.Attacks.{is_attacked}
use Rattle.frz_board.specs.Boards.{Board}
use Rattle.frz_board.specs.Men.{other_of}
use Rattle.frz_squares.specs.SquareSets.{set_of}
use Rattle.frz_fide.specs.SquareBySquare.{legal_between}
use Rattle.frz_fide.proofs.Order.{from_below, from_below-next, from_below-room}
use Rattle.frz_fide.proofs.Targets.{off_target, off_way, on_target, on_way, from_next, from_none, from_end}
use Rattle.frz_fide.proofs.moves.add_from.Goals as goal

pub returns-then-ways-eq0 : goal.returns-then-ways-eq0
returns-then-ways-eq0 c =
    from_none c.args.list.now.items c.args.p.now c.args.from c.open_ways-ways.result
    (off_way c.args.p.now c.args.man c.args.from c.without-targets.result c.open_ways-ways.result
    c.requires.man
    (off_target c.args.p.now c.args.man c.args.from c.without-targets.result c.move_set.result
    c.side.result c.turn.result c.requires.man c.move_set.ensures c.side.ensures c.turn.ensures
    c.without-targets.ensures) c.open_ways-ways.ensures) c.if-ways-eq0.true

pub add_between-requires-clause-free : goal.add_between-requires-clause-free
add_between-requires-clause-free c =
    let next : IsNext c.open_ways-ways.result c.loop-to.n c.in-Some.to = c.in-Some.ensures in
    on_target c.args.p.now c.without-targets.result c.move_set.result c.side.result c.turn.result
    c.side.ensures c.turn.ensures c.without-targets.ensures c.in-Some.to next.on_board
    (on_way c.args.p.now c.args.man c.args.from c.without-targets.result c.open_ways-ways.result
    c.open_ways-ways.ensures c.in-Some.to next.on_board next.there).0

pub add_between-requires-clause-barred : goal.add_between-requires-clause-barred
add_between-requires-clause-barred c king =
    c.barred-barred.ensures king
    ∙ ap (λ (q : Board). set_of (λ s. is_attacked q s (other_of c.args.p.now.turn)))
    c.put-bare.ensures

pub add_between-requires-clause-way : goal.add_between-requires-clause-way
add_between-requires-clause-way c =
    let next : IsNext c.open_ways-ways.result c.loop-to.n c.in-Some.to = c.in-Some.ensures in
    (on_way c.args.p.now c.args.man c.args.from c.without-targets.result c.open_ways-ways.result
    c.open_ways-ways.ensures c.in-Some.to next.on_board next.there).1

pub add_between-requires-clause-room : goal.add_between-requires-clause-room
add_between-requires-clause-room c =
    let next : IsNext c.open_ways-ways.result c.loop-to.n c.in-Some.to = c.in-Some.ensures in
    let here = from_next c.args.list.now.items c.args.p.now c.args.from c.open_ways-ways.result
    (off_way c.args.p.now c.args.man c.args.from c.without-targets.result c.open_ways-ways.result
    c.requires.man
    (off_target c.args.p.now c.args.man c.args.from c.without-targets.result c.move_set.result
    c.side.result c.turn.result c.requires.man c.move_set.ensures c.side.ensures c.turn.ensures
    c.without-targets.ensures) c.open_ways-ways.ensures)
    c.loop-to.n c.in-Some.to c.loop-to.list.items c.loop-to.invariant.1 next in
    let room = from_below-room c.args.list.now.items c.args.p.now c.args.from c.in-Some.to
    next.on_board in
    let all = c.requires.room in
    omega (arith, ap length here)

pub loop-to-preserved : goal.loop-to-preserved
loop-to-preserved c =
    let next : IsNext c.open_ways-ways.result c.loop-to.n c.in-Some.to = c.in-Some.ensures in
    let on = next.on_board in
    let here = from_next c.args.list.now.items c.args.p.now c.args.from c.open_ways-ways.result
    (off_way c.args.p.now c.args.man c.args.from c.without-targets.result c.open_ways-ways.result
    c.requires.man
    (off_target c.args.p.now c.args.man c.args.from c.without-targets.result c.move_set.result
    c.side.result c.turn.result c.requires.man c.move_set.ensures c.side.ensures c.turn.ensures
    c.without-targets.ensures) c.open_ways-ways.ensures)
    c.loop-to.n c.in-Some.to c.loop-to.list.items c.loop-to.invariant.1 next in (
      omega arith,
      c.add_between.ensures
          ∙ ap (λ xs. xs ++ legal_between c.args.p.now c.args.from c.in-Some.to) here
          ∙ sym (from_below-next c.args.list.now.items c.args.p.now c.args.from c.in-Some.to
          next.on_board)
          ∙ ap (λ n. from_below c.args.list.now.items c.args.p.now c.args.from (n + 1))
          (sym c.number-n.ensures.number),
    )

pub returns : goal.returns
returns c =
    from_end c.args.list.now.items c.args.p.now c.args.from c.open_ways-ways.result
    (off_way c.args.p.now c.args.man c.args.from c.without-targets.result c.open_ways-ways.result
    c.requires.man
    (off_target c.args.p.now c.args.man c.args.from c.without-targets.result c.move_set.result
    c.side.result c.turn.result c.requires.man c.move_set.ensures c.side.ensures c.turn.ensures
    c.without-targets.ensures) c.open_ways-ways.ensures)
    c.loop-to.n c.loop-to.list.items c.loop-to.invariant.0 c.loop-to.invariant.1
    c.in_default.ensures
