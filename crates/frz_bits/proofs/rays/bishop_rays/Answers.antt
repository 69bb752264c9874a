use Rattle.std.proofs.Common.{◌∙◌, ◌&&◌, ap}
use Rattle.frz_board.specs.Lines.{is_bishop_line}
use Rattle.frz_squares.specs.SquareSets.{has_square}
use Rattle.frz_squares.proofs.Lemmas.{has-set_of, set_of-same}
use Rattle.frz_bits.specs.Rays.{is_open, is_bishop_ray}
use Rattle.frz_bits.proofs.rays.bishop_rays.Goals as goal

pub returns : goal.returns
returns c =
    c.seen.ensures
    ∙ set_of-same (λ b. has_square c.bishop_lines.result b && is_open c.args.occupied c.args.s b)
    (λ b. is_bishop_ray c.args.occupied c.args.s b)
    (λ b l. ap (λ x. x && is_open c.args.occupied c.args.s b)
    (ap (λ w. has_square w b) c.bishop_lines.ensures ∙ has-set_of (λ b. is_bishop_line c.args.s b) b
    l))
