use Rattle.std.proofs.Common.{◌∙◌, ◌&&◌, ap, sym}
use Rattle.std.proofs.lemmas.Bool.{and_left}
use Rattle.frz_board.specs.declared.man.Kind.{Kind}
use Rattle.frz_squares.specs.SquareSets.{has_square}
use Rattle.frz_fide.specs.Legal.{goes}
use Rattle.frz_fide.proofs.PawnTargets.{others, within}
use Rattle.frz_fide.proofs.ways.pawn_targets.Goals as goal

pub returns-in-Some-clause-others : goal.returns-in-Some-clause-others
returns-in-Some-clause-others c b l out =
    and_left (has_square c.args.squares b)
    (goes c.args.p.now c.args.man.colour c.args.man.kind c.args.a b) out

pub returns-in-None-clause-within : goal.returns-in-None-clause-within
returns-in-None-clause-within c =
    within c.args.p.now c.args.man.colour c.other.result c.args.a c.args.squares
    c.pawn_set-slanting.result c.side.result c.occupied.result c.without-untaken.result
    c.without-blocked.result c.without-near.result c.without.result (sym c.in-None.ensures)
    c.other.ensures.other c.pawn_set-slanting.ensures c.side.ensures c.occupied.ensures
    c.without-untaken.ensures c.without-blocked.ensures c.without-near.ensures c.without.ensures

pub returns-in-None-clause-others : goal.returns-in-None-clause-others
returns-in-None-clause-others c b l out =
    ap (λ (k : Kind). has_square c.args.squares b
    && goes c.args.p.now c.args.man.colour k c.args.a b) c.requires
    ∙ others c.args.p.now c.args.man.colour c.other.result c.args.a c.args.squares
    c.pawn_set-slanting.result c.side.result c.occupied.result c.without-untaken.result
    c.without-blocked.result c.without-near.result c.without.result (sym c.in-None.ensures)
    c.other.ensures.other c.pawn_set-slanting.ensures c.side.ensures c.occupied.ensures
    c.without-untaken.ensures c.without-blocked.ensures c.without-near.ensures c.without.ensures
    b l out
