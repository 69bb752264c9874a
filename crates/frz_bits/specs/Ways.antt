-- Where a man may go on some board.
use Rattle.std.specs.Prelude.{ℕ, Bool, ◌==◌, ◌&&◌, ◌||◌, nat_le}
use Rattle.frz_board.specs.declared.man.Colour.{Colour}
use Rattle.frz_board.specs.declared.man.Kind.{Kind}
use Rattle.frz_board.specs.declared.man.Kind.TheVariants.{King, Queen, Rook, Bishop, Knight, Pawn}
use Rattle.frz_board.specs.Squares.{files_apart, is_forward}
use Rattle.frz_board.specs.Lines.{is_knight_jump, is_king_step, is_rook_line, is_bishop_line}

-- b is one rank forward of a on the same or an adjoining file, or two ranks forward on the same
-- file
abbrev pub is_pawn_way : Colour → ℕ → ℕ → Bool
is_pawn_way c a b =
    (nat_le (files_apart a b) 1 && is_forward c 1 a b)
    || (files_apart a b == 0 && is_forward c 2 a b)

-- on some board a man of this colour and kind goes from a to b
abbrev pub may_go : Colour → Kind → ℕ → ℕ → Bool
may_go c King a b = is_king_step a b
may_go c Queen a b = is_rook_line a b || is_bishop_line a b
may_go c Rook a b = is_rook_line a b
may_go c Bishop a b = is_bishop_line a b
may_go c Knight a b = is_knight_jump a b
may_go c Pawn a b = is_pawn_way c a b
