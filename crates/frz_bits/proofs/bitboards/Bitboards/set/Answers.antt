use Rattle.std.proofs.Common.{◌∙◌, ap, sym, subst, arith}
use Rattle.std.specs.Prelude.{◌==◌, if◌then◌else◌}
use Rattle.frz_board.specs.Boards.{Board}
use Rattle.frz_squares.specs.SquareSets.{has_square}
use Rattle.frz_bits.specs.Sides.{HasSides}
use Rattle.frz_bits.proofs.Put.{put_keeps}
use Rattle.frz_bits.proofs.bitboards.Bitboards.set.Goals as goal

pub invariant_of-self : goal.invariant_of-self
invariant_of-self c =
    subst (λ (p : Board). HasSides p c.replaced-self-inside.result c.replaced-self-inside-2.result)
    (sym c.set.ensures.put)
    (put_keeps c.self.inside.position c.self.inside.white c.self.inside.black c.args.s c.args.c
    c.replaced-self-inside.result c.replaced-self-inside-2.result
    c.self.invariant c.set.ensures.on_board (let low = c.requires in omega arith)
    c.replaced-self-inside.type_inv c.replaced-self-inside-2.type_inv
    (λ k l. c.replaced-self-inside.ensures k l
    ∙ ap (λ x. if k == c.args.s then x else has_square c.self.inside.white k) c.is_white.ensures)
    (λ k l. c.replaced-self-inside-2.ensures k l
    ∙ ap (λ x. if k == c.args.s then x else has_square c.self.inside.black k) c.is_black.ensures))
