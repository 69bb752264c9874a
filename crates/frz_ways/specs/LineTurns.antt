-- A turn of a line, with what would have been written where the sink failed.
use Rattle.std.specs.Prelude.{◌≡◌, ◌⊎◌, ℕ, List, [], ◌∷◌, Result, Ok, Err, slice_index, ⊤}
use Rattle.frz_board.specs.declared.man.Colour.{Colour}
use Rattle.frz_board.specs.Moving.{Step}
use Rattle.frz_sets.specs.declared.exit.Value.{Value}
use Rattle.frz_store.specs.Told.{SinkTold}
use Rattle.frz_answer.specs.Texts.{TookText, FailedWithin}
use Rattle.frz_arena.specs.declared.arm.Next.TheVariants.{Inside}
use Rattle.frz_arena.specs.Arena.{Arena}
use Rattle.frz_ways.specs.Costs.{way_numbers}
use Rattle.frz_ways.specs.declared.end.LineFault.TheVariants as faults
use Rattle.frz_ways.specs.declared.hearing.Reader.{Reader}
use Rattle.frz_ways.specs.declared.opponent.Opponent.TheVariants as opponents
use Rattle.frz_ways.specs.declared.playing.Cursor.{Cursor}
use Rattle.frz_ways.specs.declared.playing.Turn.{Turn}
use Rattle.frz_ways.specs.declared.playing.Turn.TheVariants.{On}
use Rattle.frz_ways.specs.declared.session_end.PlayFault.{PlayFault}
use Rattle.frz_ways.specs.declared.session_end.PlayFault.TheVariants as plays
use Rattle.frz_ways.specs.Reading.{Input}
use Rattle.frz_ways.specs.Turns.{GoesBy}
use Rattle.frz_ways.specs.Ways.{WayPly, EndOfWay, GoesOn}

-- the text was written and this answered, or the sink failed within it
abbrev pub Answers : Result Turn PlayFault → List ℕ → Result Turn PlayFault → SinkTold → SinkTold →
    Type 0
Answers due text result old new =
    ((result ≡ due) × TookText text old new)
    ⊎ ((result ≡ Err (plays.Line faults.Output)) × FailedWithin text old new)

-- each way from the cursor comes to no other number
abbrev pub StaysHere : Arena Step ℕ Value → Colour → (ℕ → List ℕ) → Cursor → Type 0
StaysHere arena side kept cursor =
    (input : Input) (plies : List WayPly) (end : EndOfWay) (last : Input) →
    GoesOn arena opponents.Codes side kept cursor.played input cursor.number plies end last →
    way_numbers (Inside (cursor.played, cursor.number)) plies ≡ cursor.number ∷ []

-- a turn that does not lead on is the last; it is stopped by no other fault
abbrev pub EndsHere : Arena Step ℕ Value → Colour → (ℕ → List ℕ) → Cursor → Result Turn PlayFault →
    Type 0
EndsHere arena side kept cursor (Ok (On number code)) = ⊤
EndsHere arena side kept cursor (Ok turn) = StaysHere arena side kept cursor
EndsHere arena side kept cursor (Err (plays.Line (faults.Wrong wrong))) =
    StaysHere arena side kept cursor
EndsHere arena side kept cursor (Err (plays.Line faults.NoBound)) =
    StaysHere arena side kept cursor
EndsHere arena side kept cursor (Err fault) = ⊥

-- this turn of a line was due, and this text: it was written, or the sink failed within it
pub record LineTurn (arena : Arena Step ℕ Value) (side : Colour) (kept : ℕ → List ℕ)
    (cursor : Cursor) (reader : Reader) (due : Result Turn PlayFault) (text : List ℕ) : Type 0 where
  pub goes : GoesBy arena opponents.Codes side kept cursor reader reader [] text due
  pub ends : slice_index (kept cursor.played) cursor.number ≡ cursor.code →
      EndsHere arena side kept cursor due
