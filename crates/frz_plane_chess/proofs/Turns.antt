-- Who is to move at each number, by the row of its configuration.
use Rattle.std.proofs.Common.{ℕ, ◌<◌, Option, None, Some, List}
use Rattle.std.specs.List.{slice_index_or}
use Rattle.frz_board.specs.declared.man.Colour.TheVariants.{White}
use Rattle.frz_board.specs.Boards.{Board}
use Rattle.frz_sets.specs.declared.exit.Value.{Value}
use Rattle.frz_sets.specs.Sets.{size_of}
use Rattle.frz_sets.specs.Sound.{IsSound}
use Rattle.frz_sets.specs.Views.{RuleLines}
use Rattle.frz_configurations.specs.Configurations.{IsSplit, configuration_count}
use Rattle.frz_configurations.proofs.Lemmas.{configuration_below}
use Rattle.frz_game.specs.Games.{graph_by}
use Rattle.frz_plane_game.specs.Spots.{IsTurnOf}
use Rattle.frz_plane_chess.specs.Rows.{IsRow, turn_at, turn_of}
use Rattle.frz_plane_chess.specs.Spots.{spot_of}
use Rattle.frz_plane_chess.specs.declared.row.Row.{Row}
use Rattle.frz_plane_chess.proofs.BoardNumbers.{none_at}
use Rattle.frz_plane_chess.proofs.Mates.{turn_missing, turn_there}
use Rattle.frz_plane_chess.proofs.Placing.{placed}

turn_by : (r : RuleLines) (value : Board → Value) (i c a b : ℕ) → IsSound r →
    IsSplit r.groups i c a b → (o : Option Row) → IsRow r value c o →
    IsTurnOf (turn_of o) ((graph_by r value).node i)
turn_by r value i c a b sound split None none =
    turn_missing r value White i (none_at r c i a b none split)
turn_by r value i c a b sound split (Some row) is =
    turn_there r value is.0 i c a b sound is.1.board split row.turn is.1.turn

pub turns_are : (r : RuleLines) (value : Board → Value) (rows : List (Option Row)) → IsSound r →
    ((c : ℕ) → c < configuration_count r.groups → IsRow r value c (slice_index_or rows c None)) →
    (i : ℕ) → i < size_of r.groups →
    IsTurnOf (turn_at rows (spot_of r.groups i).configuration) ((graph_by r value).node i)
turns_are r value rows sound are i low =
    let s = spot_of r.groups i in
    let split = (placed r sound i low).split in
    let inside = configuration_below r.groups i s.configuration s.white s.black split in
    turn_by r value i s.configuration s.white s.black sound split
    (slice_index_or rows s.configuration None) (are s.configuration inside)
