use Rattle.std.proofs.Common.{◌∙◌, ap, bit_or}
use Rattle.frz_board.specs.Lines.{is_rook_line, is_bishop_line}
use Rattle.frz_squares.specs.SquareSets.{set_of}
use Rattle.frz_squares.proofs.Lemmas.{union}
use Rattle.frz_bits.proofs.ways.queen_lines.Goals as goal

pub returns : goal.returns
returns c =
    ap (λ w. bit_or w c.bishop_lines.result) c.rook_lines.ensures
    ∙ ap (bit_or (set_of (λ b. is_rook_line c.args.s b))) c.bishop_lines.ensures
    ∙ union (λ b. is_rook_line c.args.s b) (λ b. is_bishop_line c.args.s b)
