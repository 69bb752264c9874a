use Rattle.std.proofs.Common.{◌∙◌, ◌&&◌, ◌||◌, ap, sym}
use Rattle.frz_board.specs.declared.man.Kind.{Kind}
use Rattle.frz_board.specs.Attacks.{is_clear, pawn_reaches, reaches}
use Rattle.frz_board.specs.Lines.{is_bishop_line, is_king_step, is_knight_jump, is_rook_line}
use Rattle.frz_squares.specs.SquareSets.{has_square}
use Rattle.frz_bits.proofs.Hiding.{line_kept, step_kept}
use Rattle.frz_bits.proofs.bitboards.Bitboards.reached.Goals as goal

pub returns-in-King : goal.returns-in-King
returns-in-King c b l =
    step_kept (λ b. is_king_step c.args.s b) c.args.squares
    c.king_set.result c.both.result b
    c.king_set.ensures l (c.both.ensures b l)
    ∙ ap (λ (k : Kind). has_square c.args.squares b
    && reaches c.args.self.now c.args.man.colour k c.args.s b) (sym c.in-King.is)

pub returns-in-Queen : goal.returns-in-Queen
returns-in-Queen c b l =
    line_kept (λ b. is_rook_line c.args.s b || is_bishop_line c.args.s b)
    (is_clear c.args.self.now c.args.s) c.args.squares c.queen_lines.result
    c.both-in-Queen.result c.unhidden.result b
    c.queen_lines.ensures l (c.both-in-Queen.ensures b l)
    c.unhidden.ensures
    ∙ ap (λ (k : Kind). has_square c.args.squares b
    && reaches c.args.self.now c.args.man.colour k c.args.s b) (sym c.in-Queen.is)

pub returns-in-Rook : goal.returns-in-Rook
returns-in-Rook c b l =
    line_kept (λ b. is_rook_line c.args.s b)
    (is_clear c.args.self.now c.args.s) c.args.squares c.rook_lines.result
    c.both-in-Rook.result c.unhidden-in-Rook.result b
    c.rook_lines.ensures l (c.both-in-Rook.ensures b l)
    c.unhidden-in-Rook.ensures
    ∙ ap (λ (k : Kind). has_square c.args.squares b
    && reaches c.args.self.now c.args.man.colour k c.args.s b) (sym c.in-Rook.is)

pub returns-in-Bishop : goal.returns-in-Bishop
returns-in-Bishop c b l =
    line_kept (λ b. is_bishop_line c.args.s b)
    (is_clear c.args.self.now c.args.s) c.args.squares c.bishop_lines.result
    c.both-in-Bishop.result c.unhidden-in-Bishop.result b
    c.bishop_lines.ensures l (c.both-in-Bishop.ensures b l)
    c.unhidden-in-Bishop.ensures
    ∙ ap (λ (k : Kind). has_square c.args.squares b
    && reaches c.args.self.now c.args.man.colour k c.args.s b) (sym c.in-Bishop.is)

pub returns-in-Knight : goal.returns-in-Knight
returns-in-Knight c b l =
    step_kept (λ b. is_knight_jump c.args.s b) c.args.squares
    c.knight_set.result c.both-in-Knight.result b
    c.knight_set.ensures l (c.both-in-Knight.ensures b l)
    ∙ ap (λ (k : Kind). has_square c.args.squares b
    && reaches c.args.self.now c.args.man.colour k c.args.s b) (sym c.in-Knight.is)

pub returns-in-Pawn : goal.returns-in-Pawn
returns-in-Pawn c b l =
    step_kept (λ b. pawn_reaches c.args.man.colour c.args.s b) c.args.squares
    c.pawn_set.result c.both-in-Pawn.result b
    c.pawn_set.ensures l (c.both-in-Pawn.ensures b l)
    ∙ ap (λ (k : Kind). has_square c.args.squares b
    && reaches c.args.self.now c.args.man.colour k c.args.s b) (sym c.in-Pawn.is)
