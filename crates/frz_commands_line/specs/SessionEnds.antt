-- How the command ends after a session was played.
use Rattle.std.specs.Prelude.{◌≡◌, ℕ, List, [], Result, Ok, Err, codes}
use Rattle.frz_store.specs.Told.{SinkTold}
use Rattle.frz_answer.specs.declared.status.Status.{Status}
use Rattle.frz_answer.specs.declared.status.Status.TheVariants.{Success, Limit}
use Rattle.frz_answer.specs.declared.fault.Fault.TheVariants as stops
use Rattle.frz_answer.specs.declared.end.End.{End}
use Rattle.frz_answer.specs.declared.end.End.TheVariants.{Stopped}
use Rattle.frz_answer.specs.Ends.{Said}
use Rattle.frz_ways.specs.declared.session_end.PlayFault.{PlayFault}
use Rattle.frz_ways.specs.declared.session_end.PlayFault.TheVariants as plays
use Rattle.frz_ways.specs.declared.session_end.PlayLimit.{PlayLimit}
use Rattle.frz_ways.specs.declared.session_end.PlayLimit.TheVariants.{Lines, LineLength}
use Rattle.frz_ways.specs.declared.session_end.SessionEnd.{SessionEnd}
use Rattle.frz_commands_line.specs.LineEnds.{end_status, naming_line, EndsLine}

-- the status, by what the session answers
abbrev pub session_status : Result SessionEnd PlayFault → Status
session_status (Ok end) = Success
session_status (Err (plays.Line fault)) = end_status (Err fault)
session_status (Err fault) = Limit

abbrev pub limit_line : PlayLimit → List ℕ
limit_line Lines = codes "limit lines\n"
limit_line LineLength = codes "limit line length\n"

-- the line of text for an end for which the session itself writes nothing
abbrev pub session_naming : Result SessionEnd PlayFault → List ℕ
session_naming (Err (plays.Line fault)) = naming_line (Err fault)
session_naming (Err (plays.Limit limit)) = limit_line limit
session_naming answer = []

-- an end for which the session itself writes nothing is named. A fault of the store, the memory,
-- the input or the output is not named here, but behind the command
abbrev pub EndsSession : Result SessionEnd PlayFault → End → SinkTold → SinkTold → Type 0
EndsSession (Err (plays.Line fault)) end old new = EndsLine (Err fault) end old new
EndsSession (Err plays.Input) end old new = (end ≡ Stopped stops.Input) × (new ≡ old)
EndsSession answer end old new = Said (session_status answer) (session_naming answer) end old new
