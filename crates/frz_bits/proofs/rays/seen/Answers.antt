use Rattle.std.proofs.Common.{◌∙◌, sym, arith}
use Rattle.std.proofs.lemmas.Bool.{and_parts}
use Rattle.frz_squares.specs.SquareSets.{has_square}
use Rattle.frz_bits.specs.Words.{IsNext}
use Rattle.frz_bits.proofs.HiddenSquares.{men_off, seen_end, seen_first, seen_next}
use Rattle.frz_bits.proofs.rays.seen.Goals as goal

pub loop-m-init : goal.loop-m-init
loop-m-init c = (omega arith, c.ranges.lines.fits, seen_first c.args.s c.args.lines c.args.occupied)

pub loop-m-preserved : goal.loop-m-preserved
loop-m-preserved c =
    let next : IsNext c.both-men.result c.loop-m.n c.in-Some.m = c.in-Some.ensures in
    let on = next.on_board in (
      omega arith,
      c.without-word.type_inv,
      rw c.number-n.ensures.number
          (seen_next c.args.s c.args.lines c.args.occupied c.both-men.result
          (men_off c.args.s c.args.occupied c.both-men.result c.queen_lines.result
          c.queen_lines.ensures c.both-men.ensures)
          c.loop-m.n c.in-Some.m c.loop-m.word c.hidden.result c.without-word.result next
          (and_parts (has_square c.args.occupied c.in-Some.m)
          (has_square c.queen_lines.result c.in-Some.m)
          (sym (c.both-men.ensures c.in-Some.m on) ∙ next.there)).0
          c.hidden.ensures c.without-word.ensures c.loop-m.invariant.2),
    )

pub returns : goal.returns
returns c =
    seen_end c.args.s c.args.lines c.args.occupied c.both-men.result
    (men_off c.args.s c.args.occupied c.both-men.result c.queen_lines.result
    c.queen_lines.ensures c.both-men.ensures)
    c.loop-m.n c.loop-m.word c.loop-m.invariant.1 c.in_default.ensures
    c.loop-m.invariant.2
