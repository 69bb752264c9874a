-- The squares for kings on a board without kings.
use Rattle.std.specs.Prelude.{ℕ, ◌==◌, ◌&&◌, ◌||◌, Bool, false, nat_le, not, Option, None, Some}
use Rattle.frz_board.specs.declared.man.Colour.{Colour}
use Rattle.frz_board.specs.Squares.{distance}
use Rattle.frz_board.specs.Men.{other_of}
use Rattle.frz_board.specs.Boards.{Board, is_empty}
use Rattle.frz_board.specs.EnPassant.{ahead, is_passing_rank}

-- the square is the target, or that from which the pawn of the side not to move came
abbrev pub was_passed : Option ℕ → (turn : Colour) → ℕ → Bool
was_passed None turn s = false
was_passed (Some t) turn s =
    is_passing_rank (other_of turn) t && (s == t || s == ahead turn t)

-- the square is empty, and a pawn that has just advanced two squares did not leave or pass it
abbrev pub is_room : Board → ℕ → Bool
is_room p s = is_empty p s && not (was_passed p.ep p.turn s)

-- two squares for kings that stand apart
abbrev pub are_rooms : Board → (a b : ℕ) → Bool
are_rooms p a b = (is_room p a && is_room p b) && nat_le 2 (distance a b)
