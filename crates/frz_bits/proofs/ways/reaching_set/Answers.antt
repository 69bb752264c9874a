use Rattle.std.proofs.Common.{ℕ, ◌∙◌, ◌||◌, ap, bit_or}
use Rattle.frz_board.specs.Lines.{is_knight_jump, is_rook_line, is_bishop_line}
use Rattle.frz_squares.specs.SquareSets.{set_of}
use Rattle.frz_squares.proofs.Lemmas.{union}
use Rattle.frz_bits.proofs.ways.reaching_set.Goals as goal

pub returns : goal.returns
returns c =
    let line = λ (b : ℕ). is_rook_line c.args.s b || is_bishop_line c.args.s b in
    ap (λ w. bit_or w c.knight_set.result) c.queen_lines.ensures
    ∙ ap (bit_or (set_of line)) c.knight_set.ensures ∙ union line (is_knight_jump c.args.s)
