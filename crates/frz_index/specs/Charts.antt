-- The chart of a group: where its states stand among all 384
-- states, which are in order by kind, then square.
use Rattle.std.specs.Prelude.{ℕ, ◌+◌, ◌-◌, ◌*◌, ◌<◌, ◌≤◌, ◌≡◌, ◌==◌, Bool, false, true, List, length, slice_index, Option, None, Some}
use Rattle.std.specs.List.{list_any, slice_get}
use Rattle.frz_board.specs.declared.man.Kind.{Kind}
use Rattle.frz_board.specs.Men.{kind_of_number, number_of_kind}
use Rattle.frz_board.specs.Boards.{Board}
use Rattle.frz_squares.specs.SquareSets.{has_square}
use Rattle.frz_combinations.specs.Binomials.{capped}
use Rattle.frz_combinations.specs.Combinations.{rank}
use Rattle.frz_sets.specs.Groups.{state_number}
use Rattle.frz_sets.specs.Sound.{AreStates}
use Rattle.frz_sets.specs.Views.{GroupLine}
use Rattle.frz_index.specs.declared.chart.Chart.{Chart}
use Rattle.frz_index.specs.declared.digit.Counted.{Counted}
use Rattle.frz_index.specs.Places.{places_among}

-- k states have a number below x: the place of the first state whose number is x or above
pub record IsCut (states : List (Kind × ℕ)) (x k : ℕ) : Type 0 where
  pub within : k ≤ length states
  pub before : (j : ℕ) (s : Kind × ℕ) → j < k → slice_get states j ≡ Some s → state_number s < x
  pub from : (j : ℕ) (s : Kind × ℕ) → k ≤ j → slice_get states j ≡ Some s → x ≤ state_number s

-- the state at the place k has the number x
abbrev pub IsAt : List (Kind × ℕ) → ℕ → ℕ → Type 0
IsAt states k x = (s : Kind × ℕ) × (slice_get states k ≡ Some s) × (state_number s ≡ x)

-- for each number from 0 to 384, how many states have a lower one
pub record AreCuts (states : List (Kind × ℕ)) (cuts : List ℕ) : Type 0 where
  pub size : length cuts ≡ 385
  pub cut : (x : ℕ) → x ≤ 384 → IsCut states x (slice_index cuts x)

-- for each kind, the bitboard of the squares of its states
pub record AreWords (states : List (Kind × ℕ)) (words : List ℕ) : Type 0 where
  pub size : length words ≡ 6
  pub only : (i s : ℕ) → i < 6 → s < 64 → has_square (slice_index words i) s ≡ true →
      (j : ℕ) × (slice_get states j ≡ Some (kind_of_number (i + 1), s))
  pub all : (j : ℕ) (s : Kind × ℕ) → slice_get states j ≡ Some s →
      has_square (slice_index words (number_of_kind s.0 - 1)) s.1 ≡ true

-- the chart of these states: none stands before its first kind, and none after its last
pub record IsChart (states : List (Kind × ℕ)) (chart : Chart) : Type 0 where
  pub in_order : AreStates states
  pub words_are : AreWords states chart.words
  pub cuts_are : AreCuts states chart.cuts
  pub order : chart.first ≤ chart.end
  pub kinds : chart.end ≤ 6
  pub none_before : slice_index chart.cuts (64 * chart.first) ≡ 0
  pub none_after : slice_index chart.cuts (64 * chart.end) ≡ length states

-- one chart for each group
pub record AreCharts (gs : List GroupLine) (charts : List Chart) : Type 0 where
  pub size : length charts ≡ length gs
  pub each : (i : ℕ) (g : GroupLine) (chart : Chart) → slice_get gs i ≡ Some g →
      slice_get charts i ≡ Some chart → IsChart g.states chart

-- the state is one on this square
abbrev pub is_on : ℕ → Option (Kind × ℕ) → Bool
is_on s None = false
is_on s (Some state) = state.1 == s

-- how many of the group's men stand at its first n places, the
-- rank of their places, and their squares
pub record IsCounted (p : Board) (g : GroupLine) (n : ℕ) (x : Counted) : Type 0 where
  pub count_is : x.count ≡ length (places_among p g.colour g.states n)
  pub few : x.count ≤ g.most
  pub rank_is : x.rank ≡ capped (rank (places_among p g.colour g.states n))
  pub squares_are : (s : ℕ) → s < 64 → has_square x.squares s
      ≡ list_any (λ k. is_on s (slice_get g.states k)) (places_among p g.colour g.states n)
