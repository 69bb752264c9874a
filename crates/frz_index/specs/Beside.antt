-- A position beside one whose number is known: what changed, and what the digits then add.
use Rattle.std.specs.Prelude.{ℕ, ◌+◌, ◌*◌, ◌≡◌, ◌≢◌, ◌<◌, ◌≤◌, false, true, List, length, map, slice_index}
use Rattle.std.specs.List.{AllByRecursion}
use Rattle.frz_board.specs.Boards.{Board}
use Rattle.frz_squares.specs.SquareSets.{has_square}
use Rattle.frz_combinations.specs.MixedRadix.{value}
use Rattle.frz_sets.specs.Sets.{has_state, is_state, radix_of}
use Rattle.frz_sets.specs.Views.{GroupLine}
use Rattle.frz_sets.specs.declared.limits.TheConstants.{MOST_NUMBERS}
use Rattle.frz_index.specs.Places.{IsWithinCount, digit_of}
use Rattle.frz_index.specs.declared.beside.Change.{Change}
use Rattle.frz_index.specs.declared.beside.Changes.{Changes}

-- the two positions differ on the square
abbrev pub DiffersOn : Board → Board → ℕ → Type 0
DiffersOn p q s = slice_index p.cells s ≢ slice_index q.cells s

-- for each cell a bitboard, which has the squares that changed to it or from it
pub record AreMoved (p q : Board) (moved : List ℕ) : Type 0 where
  pub size : length moved ≡ 13
  pub before : (s : ℕ) → s < 64 → DiffersOn p q s →
      has_square (slice_index moved (slice_index p.cells s)) s ≡ true
  pub after : (s : ℕ) → s < 64 → DiffersOn p q s →
      has_square (slice_index moved (slice_index q.cells s)) s ≡ true

-- no cell is a state of the group on a square that its bitboard has
abbrev pub HasNoneOf : GroupLine → List ℕ → Type 0
HasNoneOf g moved =
    (cell s : ℕ) → s < 64 → is_state cell s g ≡ true →
    has_square (slice_index moved cell) s ≡ false

-- the group's digit in q is its digit in p, less x.before, plus x.after; and among the squares that
-- changed, x.squares has those on which the group's men stand in q
pub record IsChange (p q : Board) (g : GroupLine) (x : Change) : Type 0 where
  pub counted : IsWithinCount q g
  pub digit : digit_of q g + x.before ≡ digit_of p g + x.after
  pub some_before : x.before ≤ digit_of p g
  pub some_after : x.after ≤ digit_of q g
  pub squares : (s : ℕ) → s < 64 → DiffersOn p q s →
      has_square x.squares s ≡ is_state (slice_index q.cells s) s g

-- the number of all groups' digits in q is that in p, less x.before, plus x.after; and among the
-- squares that changed, x.squares has those on which men of the groups stand in q
pub record AreChanges (p q : Board) (gs : List GroupLine) (x : Changes) : Type 0 where
  pub counted : AllByRecursion (IsWithinCount q) gs
  pub sum : value (map radix_of gs) (map (digit_of q) gs) + x.before
      ≡ value (map radix_of gs) (map (digit_of p) gs) + x.after
  pub small : x.after ≤ length gs * MOST_NUMBERS
  pub squares : (s : ℕ) → s < 64 → DiffersOn p q s →
      has_square x.squares s ≡ has_state gs (slice_index q.cells s) s
