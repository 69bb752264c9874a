-- Squeezes, which are mutual zugzwangs by the codes: each side is worse off where it is to move.
use Rattle.std.specs.Prelude.{◌≡◌, ◌<◌, ◌==◌, ◌&&◌, ℕ, Bool, nat_lt, List, slice_index, Option, Some, None, filter_map, is_none, if◌then◌else◌}
use Rattle.std.specs.List.{range_with_len}
use Rattle.std.specs.Option.{option_and_then, option_map}
use Rattle.frz_board.specs.declared.man.Colour.{Colour}
use Rattle.frz_board.specs.declared.man.Colour.TheVariants.{White, Black}
use Rattle.frz_board.specs.Boards.{Board}
use Rattle.frz_board.specs.Men.{same_colour}
use Rattle.frz_sets.specs.Sets.{size_of}
use Rattle.frz_sets.specs.Views.{GroupLine}
use Rattle.frz_arena.specs.Codes.{is_win}
use Rattle.frz_index.specs.Members.{HasNumber}
use Rattle.frz_index.specs.Membership.{number_of, position_at}
use Rattle.frz_index.specs.Partners.{with_black}

-- what a code is worth to its side: a win 2, a hold 1, and every other code 0
abbrev pub rank_of : ℕ → ℕ
rank_of code = if is_win code then 2 else (if code == 1 then 1 else 0)

-- what the side's code at the number is worth
abbrev pub rank_at : (Colour → List ℕ) → Colour → ℕ → ℕ
rank_at codes side i = rank_of (slice_index (codes side) i)

-- a position with White to move, its number, and that of the same men with Black to move
pub record Squeeze : Type 0 where
  pub white_to_move : ℕ
  pub black_to_move : ℕ
  pub position : Board

-- two positions of the set with the same men and no en passant target, White to move at the first
-- and Black at the second: White's rank is lower at the first, and Black's at the second
pub record IsSqueeze (groups : List GroupLine) (codes : Colour → List ℕ)
    (s : Squeeze) : Type 0 where
  pub other : Board
  pub first_is : HasNumber groups s.white_to_move s.position
  pub second_is : HasNumber groups s.black_to_move other
  pub same_men : other.cells ≡ s.position.cells
  pub white_first : s.position.turn ≡ White
  pub black_second : other.turn ≡ Black
  pub no_target : s.position.ep ≡ None
  pub no_other_target : other.ep ≡ None
  pub white_worse : rank_at codes White s.white_to_move < rank_at codes White s.black_to_move
  pub black_worse : rank_at codes Black s.black_to_move < rank_at codes Black s.white_to_move

-- White is to move, and there is no en passant target
abbrev pub is_first : Board → Bool
is_first p = same_colour p.turn White && is_none p.ep

-- the number of the same men with Black to move, if this position may be the first of a squeeze
abbrev pub partner_of : List GroupLine → Board → Option ℕ
partner_of groups p = if is_first p then number_of groups (with_black p) else None

-- each side's rank is lower where it is to move
abbrev pub is_worse_to_move : (Colour → List ℕ) → (w b : ℕ) → Bool
is_worse_to_move codes w b =
    nat_lt (rank_at codes White w) (rank_at codes White b) && nat_lt (rank_at codes Black b)
    (rank_at codes Black w)

abbrev pub squeeze_with : (Colour → List ℕ) → ℕ → Board → Option ℕ → Option Squeeze
squeeze_with codes w p None = None
squeeze_with codes w p (Some b) =
    if is_worse_to_move codes w b
    then Some (record { white_to_move = w; black_to_move = b; position = p })
    else None

-- the squeeze whose first position is this one with this number, if there is one
abbrev pub squeeze_on : List GroupLine → (Colour → List ℕ) → ℕ → Board → Option Squeeze
squeeze_on groups codes w p = squeeze_with codes w p (partner_of groups p)

abbrev pub squeeze_at : List GroupLine → (Colour → List ℕ) → ℕ → Option Squeeze
squeeze_at groups codes w = option_and_then (squeeze_on groups codes w) (position_at groups w)

-- the squeeze of a first position with its number and a second number, if there is one
abbrev pub squeezed_by : ℕ → Board → Option ℕ → Option Squeeze
squeezed_by w p second =
    option_map (λ b. record { white_to_move = w; black_to_move = b; position = p }) second

-- the squeezes whose first number is below n, by increasing first number
abbrev pub squeezes_below : List GroupLine → (Colour → List ℕ) → ℕ → List Squeeze
squeezes_below groups codes n = filter_map (squeeze_at groups codes) (range_with_len 0 n)

-- all squeezes of a set by the codes of both sides
abbrev pub squeezes : List GroupLine → (Colour → List ℕ) → List Squeeze
squeezes groups codes = squeezes_below groups codes (size_of groups)
