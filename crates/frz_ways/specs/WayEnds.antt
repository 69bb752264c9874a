-- What a way answers at its end, and what the line or the session answers then.
use Rattle.std.specs.Prelude.{◌≡◌, ◌≢◌, ℕ, List, [], Result, Ok, Err, ⊤}
use Rattle.frz_board.specs.declared.man.Colour.{Colour}
use Rattle.frz_arena.specs.WayEnds.{Wrong, NoBound, Mated, Stalemated, Exit, Cut, Stopped}
use Rattle.frz_ways.specs.declared.end.LineEnd.{LineEnd}
use Rattle.frz_ways.specs.declared.end.LineEnd.TheVariants as lines
use Rattle.frz_ways.specs.declared.end.LineFault.{LineFault}
use Rattle.frz_ways.specs.declared.end.LineFault.TheVariants as faults
use Rattle.frz_ways.specs.declared.hearing.Why.{Why}
use Rattle.frz_ways.specs.declared.hearing.Why.TheVariants.{Ended, Limit}
use Rattle.frz_ways.specs.declared.opponent.Opponent.{Opponent}
use Rattle.frz_ways.specs.declared.opponent.Opponent.TheVariants as opponents
use Rattle.frz_ways.specs.declared.session_end.PlayFault.{PlayFault}
use Rattle.frz_ways.specs.declared.session_end.PlayFault.TheVariants as plays
use Rattle.frz_ways.specs.declared.session_end.SessionEnd.{SessionEnd}
use Rattle.frz_ways.specs.declared.session_end.SessionEnd.TheVariants as sessions
use Rattle.frz_ways.specs.declared.way_end.Finish.{Finish}
use Rattle.frz_ways.specs.declared.way_end.Finish.TheVariants.{Here, Left}
use Rattle.frz_ways.specs.declared.way_end.WayEnd.{WayEnd}
use Rattle.frz_ways.specs.declared.way_end.WayEnd.TheVariants as ends
use Rattle.frz_ways.specs.Ways.{EndOfWay}

abbrev pub told_why : Why → Result WayEnd PlayFault
told_why Ended = Ok ends.InputEnded
told_why (Limit limit) = Err (plays.Limit limit)

abbrev pub told : Colour → EndOfWay → Result WayEnd PlayFault
told side (Wrong at kept given) =
    Err (plays.Line
    (faults.Wrong (record { side = side; number = at.1; kept = kept; given = given })))
told side NoBound = Err (plays.Line faults.NoBound)
told side (Mated mover) = Ok ends.Mate
told side (Stalemated mover) = Ok ends.Stalemate
told side (Exit v) = Ok (ends.Exit v)
told side Cut = Ok ends.Cut
told side (Stopped halt) = told_why halt.why

-- some text is still to be written, or the answer is a fault, whose line the caller writes
abbrev pub IsUnfinished : (answer : Result WayEnd PlayFault) → (rest : List ℕ) → Type 0
IsUnfinished (Ok end) rest = rest ≢ []
IsUnfinished (Err fault) rest = ⊤

-- a way answers what its end calls for, with its whole text written and all that it takes of the
-- input taken. Only a fault of the store, the sink or the input ends it earlier
abbrev pub Finishes : (result answer : Result WayEnd PlayFault) → (rest unread : List ℕ) → Type 0
Finishes (Err (plays.Line faults.Store)) answer rest unread = IsUnfinished answer rest
Finishes (Err (plays.Line faults.NoMemory)) answer rest unread = IsUnfinished answer rest
Finishes (Err (plays.Line faults.Output)) answer rest unread = ⊤
Finishes (Err plays.Input) answer rest unread = IsUnfinished answer rest
Finishes result answer rest unread = (result ≡ answer) × (rest ≡ []) × (unread ≡ [])

-- the ends that a way can have: only a line is cut, and only a session ends with its input
abbrev pub IsEndOf : WayEnd → Opponent → Type 0
IsEndOf ends.Cut opponent = opponent ≡ opponents.Codes
IsEndOf ends.InputEnded opponent = opponent ≡ opponents.Input
IsEndOf end opponent = ⊤

-- the same of an end within the set, which is no exit
abbrev pub IsEndHere : WayEnd → Opponent → Type 0
IsEndHere (ends.Exit v) opponent = ⊥
IsEndHere end opponent = IsEndOf end opponent

-- the faults that a way can have: only a session meets a fault or a limit of an input
abbrev pub IsFaultOf : PlayFault → Opponent → Type 0
IsFaultOf (plays.Line fault) opponent = ⊤
IsFaultOf plays.Input opponent = opponent ≡ opponents.Input
IsFaultOf (plays.Limit limit) opponent = opponent ≡ opponents.Input

abbrev pub IsAnswerOf : Result WayEnd PlayFault → Opponent → Type 0
IsAnswerOf (Ok end) opponent = IsEndOf end opponent
IsAnswerOf (Err fault) opponent = IsFaultOf fault opponent

-- the way finished as one against this opponent can
abbrev pub IsFinishOf : Result Finish PlayFault → Opponent → Type 0
IsFinishOf (Ok (Here end)) opponent = IsEndHere end opponent
IsFinishOf (Ok (Left number move v)) opponent = ⊤
IsFinishOf (Err fault) opponent = IsFaultOf fault opponent

-- the end of a way that finished so
abbrev pub end_of : Finish → WayEnd
end_of (Here end) = end
end_of (Left number move v) = ends.Exit v

abbrev pub ended : Result Finish PlayFault → Result WayEnd PlayFault
ended (Ok finish) = Ok (end_of finish)
ended (Err fault) = Err fault

-- the way's end where the line has this end
abbrev pub end_of_line : LineEnd → WayEnd
end_of_line lines.Mate = ends.Mate
end_of_line lines.Stalemate = ends.Stalemate
end_of_line (lines.Exit v) = ends.Exit v
end_of_line lines.Cut = ends.Cut

abbrev pub of_line : Result LineEnd LineFault → Result WayEnd PlayFault
of_line (Ok end) = Ok (end_of_line end)
of_line (Err fault) = Err (plays.Line fault)

-- the way's end where the session has this end
abbrev pub end_of_session : SessionEnd → WayEnd
end_of_session sessions.Mate = ends.Mate
end_of_session sessions.Stalemate = ends.Stalemate
end_of_session (sessions.Exit v) = ends.Exit v
end_of_session sessions.InputEnded = ends.InputEnded

abbrev pub of_session : Result SessionEnd PlayFault → Result WayEnd PlayFault
of_session (Ok end) = Ok (end_of_session end)
of_session (Err fault) = Err fault
