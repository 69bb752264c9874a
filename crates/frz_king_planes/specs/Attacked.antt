-- The pairs of squares on which a king is attacked.
use Rattle.std.specs.Prelude.{ℕ, ◌≡◌, ◌<◌, ◌&&◌, Bool, true, not, List}
use Rattle.std.specs.List.{list_any}
use Rattle.frz_board.specs.declared.man.Colour.{Colour}
use Rattle.frz_board.specs.Squares.{squares}
use Rattle.frz_board.specs.Lines.{is_between}
use Rattle.frz_board.specs.Men.{other_of}
use Rattle.frz_board.specs.Boards.{Board, holds}
use Rattle.frz_board.specs.Attacks.{attacks, is_attacked}
use Rattle.frz_planes.specs.Planes.{has_pair}
use Rattle.frz_king_planes.specs.Kings.{with_kings, are_free, king_square}

-- a man of this side attacks s, and t is not between them
abbrev pub is_attacked_past : Board → (s : ℕ) → Colour → (t : ℕ) → Bool
is_attacked_past p s by t =
    list_any (λ m. (holds p by m && attacks p m s) && not (is_between m t s)) squares

-- of the pairs of free squares the plane has those on which the colour's king is attacked
abbrev pub AreAttacked : Board → Colour → List ℕ → Type 0
AreAttacked p c plane =
    (a b : ℕ) → a < 64 → b < 64 → are_free p a b ≡ true →
    has_pair plane a b ≡ is_attacked (with_kings p a b) (king_square c a b) (other_of c)
