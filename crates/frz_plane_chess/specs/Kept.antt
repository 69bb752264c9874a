-- What the game of a set by planes keeps, and what follows from it.
use Rattle.std.specs.Prelude.{ℕ, ◌≡◌, ◌<◌, List, Option, None, length}
use Rattle.std.specs.List.{slice_index_or}
use Rattle.frz_board.specs.Boards.{Board}
use Rattle.frz_sets.specs.declared.exit.Value.{Value}
use Rattle.frz_sets.specs.Sets.{size_of}
use Rattle.frz_sets.specs.Sound.{IsSound}
use Rattle.frz_sets.specs.Views.{GroupLine, RuleLines}
use Rattle.frz_configurations.specs.Configurations.{configuration_count}
use Rattle.frz_graph.specs.Finite.{IsFinite}
use Rattle.frz_game.specs.Games.{graph_by}
use Rattle.frz_game.specs.SmallLags.{HasSmallLags}
use Rattle.frz_plane_arms.specs.MenArms.{AreAllLive}
use Rattle.frz_plane_game.specs.Spots.{AreSpots, IsTurnOf}
use Rattle.frz_plane_chess.specs.Rows.{IsRow, turn_at}
use Rattle.frz_plane_chess.specs.Spots.{spot_of, spots_of}
use Rattle.frz_plane_chess.specs.declared.row.Row.{Row}

-- the live pairs and the rows of all configurations of the set of sound rules, whose game by planes
-- meets the laws of one
pub record IsKept (groups : List GroupLine) (r : RuleLines) (value : Board → Value)
    (lives : List (List ℕ)) (rows : List (Option Row)) : Type 0 where
  pub same : groups ≡ r.groups
  pub sound : IsSound r
  pub small : HasSmallLags value
  pub many_lives : length lives ≡ configuration_count r.groups
  pub many_rows : length rows ≡ configuration_count r.groups
  pub are_live : AreAllLive r.groups lives
  pub are_rows : (c : ℕ) → c < configuration_count r.groups → IsRow r value c (slice_index_or rows c None)
  pub finite : IsFinite (graph_by r value) (size_of r.groups)
  pub placed : AreSpots (spots_of r.groups)
  pub turns : (i : ℕ) → i < size_of r.groups →
      IsTurnOf (turn_at rows (spot_of r.groups i).configuration) ((graph_by r value).node i)
