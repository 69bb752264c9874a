-- The target: the square that a pawn has just passed over, where an enemy pawn may capture it
-- (FIDE 3.7).
use Rattle.std.specs.Prelude.{ℕ, Bool, true, false, ◌==◌, ◌&&◌, Option, None, Some}
use Rattle.std.specs.List.{list_any}
use Rattle.frz_board.specs.declared.man.Colour.{Colour}
use Rattle.frz_board.specs.declared.man.Kind.TheVariants.{Pawn}
use Rattle.frz_board.specs.Squares.{squares, is_beside}
pub use Rattle.frz_board.specs.Ranks.{ahead, is_passing_rank}
use Rattle.frz_board.specs.Men.{other_of}
use Rattle.frz_board.specs.Boards.{Board, is_empty, has}

-- a pawn of this side stands beside the square
abbrev pub has_pawn_beside : Board → Colour → ℕ → Bool
has_pawn_beside p c b = list_any (λ s. is_beside s b && has p c Pawn s) squares

-- the square is the target
abbrev pub is_target : Option ℕ → ℕ → Bool
is_target None b = false
is_target (Some t) b = t == b

-- a pawn of this side has passed over the square: it stands one rank ahead of the square, which is
-- empty, and so is the square that it came from
abbrev pub has_passed : Board → Colour → ℕ → Bool
has_passed p c t =
    (is_passing_rank c t && (is_empty p t && is_empty p (ahead (other_of c) t)))
    && has p c Pawn (ahead c t)

-- a pawn of this side has passed over the square, and a pawn of the other stands beside it
abbrev pub is_passed : Board → Colour → ℕ → Bool
is_passed p c t = has_passed p c t && has_pawn_beside p (other_of c) (ahead c t)

abbrev pub target_stands : Board → Option ℕ → Bool
target_stands p None = true
target_stands p (Some t) = is_passed p (other_of p.turn) t

-- a target is in place: the opponent's pawn has passed over it, and a pawn of the side to move
-- stands beside that pawn
unfoldable pub has_target_in_place : Board → Bool
has_target_in_place p = target_stands p p.ep
