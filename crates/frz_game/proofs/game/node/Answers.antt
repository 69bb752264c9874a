use Rattle.std.proofs.Common.{◌∙◌, ap, sym}
use Rattle.frz_arena.specs.declared.node.Node.TheVariants.{Mate, Stalemate, Going}
use Rattle.frz_game.proofs.Endings.{mate_is, stalemate_is, going_is}
use Rattle.frz_game.proofs.game.node.Goals as goal

pub returns-in-Mate : goal.returns-in-Mate
returns-in-Mate c =
    ap Mate c.turn.ensures.turn ∙ sym (mate_is c.args.p.now (c.ending.ensures.mate.0 c.in-Mate.is))

pub returns-in-Stalemate : goal.returns-in-Stalemate
returns-in-Stalemate c =
    ap Stalemate c.turn-in-Stalemate.ensures.turn
    ∙ sym (stalemate_is c.args.p.now (c.ending.ensures.stalemate.0 c.in-Stalemate.is))

pub returns-in-Going : goal.returns-in-Going
returns-in-Going c =
    ap Going c.turn-in-Going.ensures.turn
    ∙ sym (going_is c.args.p.now (c.ending.ensures.going.0 c.in-Going.is))
