-- What a session answers at its end.
use Rattle.std.specs.Prelude.{◌≡◌, ◌≢◌, ℕ, List, [], Result, Ok, Err, ⊤}
use Rattle.frz_board.specs.declared.man.Colour.{Colour}
use Rattle.frz_arena.specs.WayEnds.{Wrong, NoBound, Mated, Stalemated, Exit, Cut, Stopped}
use Rattle.frz_ways.specs.declared.end.LineFault.TheVariants as faults
use Rattle.frz_ways.specs.declared.session_end.SessionEnd.{SessionEnd}
use Rattle.frz_ways.specs.declared.session_end.SessionEnd.TheVariants as ends
use Rattle.frz_ways.specs.declared.session_end.PlayFault.{PlayFault}
use Rattle.frz_ways.specs.declared.session_end.PlayFault.TheVariants as plays
use Rattle.frz_ways.specs.declared.hearing.Why.{Why}
use Rattle.frz_ways.specs.declared.hearing.Why.TheVariants.{Ended, Limit}
use Rattle.frz_ways.specs.Sessions.{EndOfSession}

abbrev pub why_told : Why → Result SessionEnd PlayFault
why_told Ended = Ok ends.InputEnded
why_told (Limit limit) = Err (plays.Limit limit)

-- a session with this end answers this. No session is cut
abbrev pub Tells : Colour → EndOfSession → Result SessionEnd PlayFault → Type 0
Tells side (Wrong at kept given) answer =
    answer ≡ Err (plays.Line
    (faults.Wrong (record { side = side; number = at.1; kept = kept; given = given })))
Tells side NoBound answer = answer ≡ Err (plays.Line faults.NoBound)
Tells side (Mated mover) answer = answer ≡ Ok ends.Mate
Tells side (Stalemated mover) answer = answer ≡ Ok ends.Stalemate
Tells side (Exit v) answer = answer ≡ Ok (ends.Exit v)
Tells side Cut answer = ⊥
Tells side (Stopped halt) answer = answer ≡ why_told halt.why

-- where the session's end has a line in its text, that line is still to be written
abbrev pub StopsShort : Colour → EndOfSession → (rest : List ℕ) → Type 0
StopsShort side end rest = (last : SessionEnd) → Tells side end (Ok last) → rest ≢ []

-- a session answers what its end calls for, with its whole text written and all that it takes of
-- the input taken. Only a fault of the store, the sink or the input ends it earlier
abbrev pub Finishes : Result SessionEnd PlayFault → Colour → EndOfSession → (rest unread : List ℕ)
    → Type 0
Finishes (Err (plays.Line faults.Store)) side end rest unread = StopsShort side end rest
Finishes (Err (plays.Line faults.NoMemory)) side end rest unread = StopsShort side end rest
Finishes (Err (plays.Line faults.Output)) side end rest unread = ⊤
Finishes (Err plays.Input) side end rest unread = StopsShort side end rest
Finishes answer side end rest unread = Tells side end answer × (rest ≡ []) × (unread ≡ [])
