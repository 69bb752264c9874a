-- How the command ends after a journey was played.
use Rattle.std.specs.Prelude.{ℕ, ◌<◌, List, [], Result, Ok, Err, ⊤}
use Rattle.frz_store.specs.Told.{SinkTold}
use Rattle.frz_game.specs.declared.wrong.Wrong.{Wrong as WrongEntry}
use Rattle.frz_answer.specs.declared.status.Status.{Status}
use Rattle.frz_answer.specs.declared.status.Status.TheVariants.{Success, Wrong}
use Rattle.frz_answer.specs.declared.end.End.{End}
use Rattle.frz_answer.specs.Ends.{Said}
use Rattle.frz_prelude.specs.WrongLines.{wrong_line}
use Rattle.frz_atlas_prelude.specs.BackFault.TheVariants as backs
use Rattle.frz_atlas_prelude.specs.BackLines.{back_line}
use Rattle.frz_atlas_prelude.specs.declared.names.TheConstants.{MOST_BACKS}
use Rattle.frz_ways.specs.declared.end.LineFault.TheVariants as faults
use Rattle.frz_ways.specs.declared.session_end.PlayFault.{PlayFault}
use Rattle.frz_ways.specs.declared.session_end.PlayFault.TheVariants as plays
use Rattle.frz_ways.specs.declared.way_end.WayEnd.{WayEnd}
use Rattle.frz_journeys.specs.declared.place.Place.{Place}
use Rattle.frz_journeys.specs.declared.place.Place.TheVariants.{Own, Behind}
use Rattle.frz_commands_line.specs.SessionEnds.{session_status, session_naming, EndsSession}

-- the place is that of one of the tables that a command takes
abbrev pub IsNear : Place → Type 0
IsNear Own = ⊤
IsNear (Behind place) = place < MOST_BACKS

-- a wrong code is one of such a table
abbrev pub HasNearPlace : Place → Result WayEnd PlayFault → Type 0
HasNearPlace place (Err (plays.Line (faults.Wrong wrong))) = IsNear place
HasNearPlace place answer = ⊤

-- the status, by what the journey answers
abbrev pub answer_status : Result WayEnd PlayFault → Status
answer_status (Ok end) = Success
answer_status (Err fault) = session_status (Err fault)

-- the line that tells a wrong code of the table at this place, as `check` tells it
abbrev pub wrong_at : Place → WrongEntry → List ℕ
wrong_at Own wrong = wrong_line wrong
wrong_at (Behind place) wrong = back_line place (backs.Wrong wrong)

-- the line of text for an end for which the journey itself writes nothing
abbrev pub naming : Place → Result WayEnd PlayFault → List ℕ
naming place (Ok end) = []
naming place (Err (plays.Line (faults.Wrong wrong))) = wrong_at place wrong
naming place (Err fault) = session_naming (Err fault)

-- an end for which the journey itself writes nothing is named: a wrong code with the place of its
-- table, any other as after a session. A fault of the input or of the output is not named here, but
-- behind the command
abbrev pub EndsJourney : Place → Result WayEnd PlayFault → End → SinkTold → SinkTold → Type 0
EndsJourney place (Ok last) end old new = Said Success [] end old new
EndsJourney place (Err (plays.Line (faults.Wrong wrong))) end old new =
    Said Wrong (wrong_at place wrong) end old new
EndsJourney place (Err fault) end old new = EndsSession (Err fault) end old new
