use Rattle.std.proofs.Common.{◌+◌, ◌∙◌, ◌&&◌, ap, sym, arith}
use Rattle.frz_bits.specs.Words.{IsNext}
use Rattle.frz_bits.proofs.Lemmas.{walk_room, walk_next, walk_end}
use Rattle.frz_squares.specs.SquareSets.{bits_below}
use Rattle.frz_fide.specs.Legal.{goes}
use Rattle.frz_fide.proofs.Targets.{has_way}
use Rattle.frz_fide.proofs.ways.pawn_ways.Goals as goal

pub with_square-word-requires : goal.with_square-word-requires
with_square-word-requires c =
    walk_room (has_way c.args.p.now c.args.man c.args.a c.args.squares) c.pawn_targets-near.result
    c.pawn_targets-near.ensures.others c.loop-b.n c.in-Some.b c.loop-b.word
    c.loop-b.invariant.1 c.in-Some.ensures

pub loop-b-preserved : goal.loop-b-preserved
loop-b-preserved c =
    let next : IsNext c.pawn_targets-near.result c.loop-b.n c.in-Some.b = c.in-Some.ensures in
    let on = next.on_board in (
      omega arith,
      walk_next (has_way c.args.p.now c.args.man c.args.a c.args.squares)
          c.pawn_targets-near.result c.pawn_targets-near.ensures.others c.loop-b.n c.in-Some.b
          c.loop-b.word c.with_square-word.result c.is_way.result c.loop-b.invariant.1 next
          c.with_square-word.ensures
          (c.is_way.ensures
          ∙ ap (λ x. x && goes c.args.p.now c.args.man.colour c.args.man.kind c.args.a c.in-Some.b)
          (sym (c.pawn_targets-near.ensures.within c.in-Some.b next.on_board next.there)))
          ∙ ap (λ n. bits_below (has_way c.args.p.now c.args.man c.args.a c.args.squares) (n + 1))
          (sym c.number-n.ensures.number),
    )

pub returns : goal.returns
returns c =
    walk_end (has_way c.args.p.now c.args.man c.args.a c.args.squares) c.pawn_targets-near.result
    c.pawn_targets-near.ensures.others c.loop-b.n c.loop-b.word
    c.loop-b.invariant.0 c.loop-b.invariant.1 c.in_default.ensures
