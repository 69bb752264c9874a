-- What `line TABLE FEN SIDE` and `play TABLE FEN SIDE` are to do: which of the two it is goes by who
-- finds the opponent's plies.
use Rattle.std.specs.Prelude.{ℕ, List, [], ◌∷◌, Bool, true, false}
use Rattle.frz_board.specs.declared.man.Colour.{Colour}
use Rattle.frz_board.specs.Boards.{Board}
use Rattle.frz_fen.specs.Reading.{fen_of}
use Rattle.frz_store.specs.Files.{Files}
use Rattle.frz_store.specs.Told.{SourceTold}
use Rattle.frz_table.specs.Opening.{contents_of}
use Rattle.frz_table.specs.Tables.{Table as OpenTable}
use Rattle.frz_answer.specs.declared.end.End.{End}
use Rattle.frz_answer.specs.declared.status.Status.{Status}
use Rattle.frz_answer.specs.declared.status.Status.TheVariants.{Success, Wrong, Table, Outside, Missing, Limit}
use Rattle.frz_answer.specs.Answers.{Answer}
use Rattle.frz_answer.specs.Ends.{Ran}
use Rattle.frz_answer.specs.Jobs.{Job, Needs, Never, Once, plain}
use Rattle.frz_answer.specs.Words.{taking, three_words_of}
use Rattle.frz_answer.specs.World.{World}
use Rattle.frz_prelude.specs.Positions.{on_position}
use Rattle.frz_ways.specs.declared.opponent.Opponent.{Opponent}
use Rattle.frz_ways.specs.declared.opponent.Opponent.TheVariants as opponents
use Rattle.frz_commands_line.specs.Costs.{CostsIn, CostsAt}
use Rattle.frz_commands_line.specs.Later.{from_opening, held_later}
use Rattle.frz_commands_line.specs.LineMeaning.{MeansLine}
use Rattle.frz_commands_line.specs.SessionMeaning.{MeansPlay}
use Rattle.frz_commands_line.specs.Sides.{on_side, side_of}
use Rattle.frz_commands_line.specs.WayOf.{WayComes, IsToldIn, IsToldAt}

-- only a session takes input, and meets its limits
abbrev pub takes_input : Opponent → Bool
takes_input opponents.Codes = false
takes_input opponents.Input = true

abbrev pub limits_of : Opponent → List Status
limits_of opponents.Codes = []
limits_of opponents.Input = Limit ∷ []

-- what an answer means, of a line and of a session
abbrev pub MeansWay : Opponent → (later : ℕ → Files) → List ℕ → Colour → Board → Files →
    (input : List ℕ) → Answer → Type 0
MeansWay opponents.Codes later table side p files input a = MeansLine later table side p files a
MeansWay opponents.Input later table side p files input a =
    MeansPlay later table side p files input a

-- what the commands need. Their answers depend on the files in which the table opens; what is read
-- after some plies is described by `later`
abbrev pub way_needs : Opponent → Needs
way_needs opponent =
    record { store = true; reads = Once; input = takes_input opponent; memory = true }

-- the line or session by an open table, over what the store holds after each number of plies
abbrev pub way_in : Opponent → (later : ℕ → Files) → OpenTable → Colour → Board → Job
way_in opponent later table side p =
    record (plain (Success ∷ Wrong ∷ Outside ∷ limits_of opponent)
    (λ files input a. IsToldIn opponent (contents_of table) (held_later later table.name) side p
    files input a)) {
      needs = record (way_needs opponent) { reads = Never };
      speaks = true;
      costs = λ files input a.
          CostsIn (contents_of table) p
          (WayComes opponent (held_later later table.name) side p input (contents_of table)) 0 0;
    }

-- the line or session by the table of this name: at ply 0 it reads the files in which the table
-- opens
abbrev pub way_at : Opponent → (later : ℕ → Files) → List ℕ → Colour → Board → Job
way_at opponent later table side p =
    record (plain (Success ∷ Wrong ∷ Table ∷ Outside ∷ Missing ∷ limits_of opponent)
    (λ files input a. IsToldAt opponent (from_opening files later) table side p files input a)) {
      means = λ files input a.
          MeansWay opponent (from_opening files later) table side p files input a;
      needs = way_needs opponent;
      speaks = true;
      costs = λ files input a. CostsAt (files table) p
          (WayComes opponent (held_later (from_opening files later) table) side p input);
    }

-- the line or session by the words TABLE, FEN and SIDE, of which SIDE is refused first
abbrev pub way_named : Opponent → (later : ℕ → Files) → List ℕ × List ℕ × List ℕ → Job
way_named opponent later names =
    on_side (λ side. on_position (way_at opponent later names.0 side) (fen_of names.1))
    (side_of names.2)

abbrev pub way_words : Opponent → (later : ℕ → Files) → List (List ℕ) → Job
way_words opponent later words = taking (way_named opponent later) (three_words_of words)

-- what is told of the command's input, where the way is played against an input that tells this: a
-- line leaves the command's input, which may tell any other
abbrev pub input_with : Opponent → (played other : SourceTold) → SourceTold
input_with opponents.Codes played other = other
input_with opponents.Input played other = played

-- the job was done, whatever an input tells that the way leaves
abbrev pub RanBeside : Opponent → Job → End → (old new : World) → Type 0
RanBeside opponent job end old new = (other : SourceTold) → Ran job end
    (record old { input = input_with opponent old.input other })
    (record new { input = input_with opponent new.input other })
