use Rattle.std.proofs.Common.{◌∙◌, ◌&&◌, ap}
use Rattle.frz_board.specs.Attacks.{is_clear}
use Rattle.frz_squares.specs.SquareSets.{has_square}
use Rattle.frz_squares.proofs.Lemmas.{set_of-same}
use Rattle.frz_bits.specs.Rays.{is_open}
use Rattle.frz_bits.proofs.Hiding.{open_clear}
use Rattle.frz_bits.proofs.bitboards.Bitboards.unhidden.Goals as goal

pub returns : goal.returns
returns c =
    c.seen.ensures
    ∙ set_of-same (λ b. has_square c.args.squares b && is_open c.occupied.result c.args.s b)
    (λ b. has_square c.args.squares b && is_clear c.args.self.now c.args.s b)
    (λ b l. ap (λ x. has_square c.args.squares b && x)
    (open_clear c.args.self.now c.occupied.result c.args.s b c.occupied.ensures))
