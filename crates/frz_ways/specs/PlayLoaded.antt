-- What a side's way from a number by codes in memory writes and takes of the input.
use Rattle.std.specs.Prelude.{◌≤◌, ◌+◌, ℕ, List, ◌++◌, length, slice_index, Result, Err, ⊤}
use Rattle.frz_board.specs.declared.man.Colour.{Colour}
use Rattle.frz_board.specs.Moving.{Step}
use Rattle.frz_sets.specs.declared.exit.Value.{Value}
use Rattle.frz_arena.specs.declared.arm.Next.TheVariants.{Inside}
use Rattle.frz_arena.specs.Arena.{Arena}
use Rattle.frz_ways.specs.declared.end.LineFault.TheVariants as faults
use Rattle.frz_ways.specs.declared.hearing.Reader.{Reader}
use Rattle.frz_ways.specs.declared.opponent.Opponent.{Opponent}
use Rattle.frz_ways.specs.declared.session_end.PlayFault.{PlayFault}
use Rattle.frz_ways.specs.declared.session_end.PlayFault.TheVariants as plays
use Rattle.frz_ways.specs.declared.way_end.Finish.{Finish}
use Rattle.frz_ways.specs.Costs.{way_numbers}
use Rattle.frz_ways.specs.Hearing.{MayFollow}
use Rattle.frz_ways.specs.PlayWay.{LeftBy, WayPlayed}
use Rattle.frz_ways.specs.Reading.{Input}
use Rattle.frz_ways.specs.WayEnds.{ended}
use Rattle.frz_ways.specs.Ways.{WayPly, EndOfWay, GoesOn}

-- each way from the start by these codes that takes its input from where the reader was begins with
-- this text and these bytes, and is played so far in one step a number at most. Behind the bytes
-- stands what may follow
abbrev pub PlaysLoaded : Arena Step ℕ Value → Opponent → Colour → (codes : List ℕ) → (start : ℕ) →
    (old new : Reader) → (bytes text : List ℕ) → Result Finish PlayFault → (before now : ℕ) → Type 0
PlaysLoaded arena opponent side codes start old new bytes text result before now =
    (left : List ℕ) → MayFollow new left →
    (plies : List WayPly) (end : EndOfWay) (last : Input) →
    GoesOn arena opponent side (λ k. codes) 0 (record { left = bytes ++ left; more = old.more })
    start plies end last →
    WayPlayed opponent side (slice_index codes start) (bytes ++ left) bytes text (ended result)
    plies end last
    × (now ≤ before + length (way_numbers (Inside (0, start)) plies))
    × LeftBy result (record { left = left; more = new.more }) plies end last

-- no fault of a store, and no position outside
abbrev pub IsSettled : {T : Type 0} → Result T PlayFault → Type 0
IsSettled (Err (plays.Line faults.Store)) = ⊥
IsSettled (Err (plays.Line faults.NoMemory)) = ⊥
IsSettled (Err (plays.Line faults.Outside)) = ⊥
IsSettled result = ⊤
