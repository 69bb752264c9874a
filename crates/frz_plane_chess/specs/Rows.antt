-- What the game keeps of configurations.
use Rattle.std.specs.Prelude.{ℕ, ◌≡◌, ◌<◌, true, false, List, Option, None, Some, MatchOption}
use Rattle.std.specs.List.{slice_index_or}
use Rattle.frz_board.specs.declared.man.Colour.{Colour}
use Rattle.frz_board.specs.declared.man.Colour.TheVariants.{White}
use Rattle.frz_board.specs.Boards.{Board}
use Rattle.frz_sets.specs.declared.exit.Value.{Value}
use Rattle.frz_sets.specs.Views.{RuleLines}
use Rattle.frz_configurations.specs.Configurations.{configuration_count}
use Rattle.frz_kingless.specs.Boards.{HasNoPosition, IsBoardOf}
use Rattle.frz_plane_arms.specs.Inner.{AreBelow, AreInner}
use Rattle.frz_plane_exits.specs.Exits.{AreExits}
use Rattle.frz_plane_chess.specs.Counted.{AreMated, AreMoving, HasLagsWithin}
use Rattle.frz_plane_chess.specs.declared.row.Row.{Row}

-- the row is that of the board
pub record IsRowOf (r : RuleLines) (value : Board → Value) (c : ℕ) (row : Row) (p : Board) :
    Type 0 where
  pub board : IsBoardOf r.groups c p
  pub turn : row.turn ≡ p.turn
  pub inner : AreInner r p row.moves
  pub below : AreBelow (configuration_count r.groups) row.moves
  pub exits : AreExits r value p row.exits.items
  pub moving : AreMoving r value p false row.moving
  pub moving_freely : AreMoving r value p true row.moving_freely
  pub mated : AreMated r value p row.mated

-- the row is that of the configuration; a configuration without positions has none
abbrev pub IsRow : RuleLines → (Board → Value) → ℕ → Option Row → Type 0
IsRow r value c o =
    MatchOption o (HasNoPosition r.groups c) (λ row. (p : Board) × IsRowOf r value c row p)

-- who is to move, by the row
abbrev pub turn_of : Option Row → Colour
turn_of None = White
turn_of (Some row) = row.turn

abbrev pub turn_at : List (Option Row) → ℕ → Colour
turn_at rows c = turn_of (slice_index_or rows c None)

-- of the first k rows the lags of exits that win for the side are at most this, or above 1,000 plies
abbrev pub HaveLagsWithin : List (Option Row) → Colour → (k most : ℕ) → Type 0
HaveLagsWithin rows side k most =
    (c : ℕ) (row : Row) → c < k → slice_index_or rows c None ≡ Some row →
    HasLagsWithin row.exits.items side most
