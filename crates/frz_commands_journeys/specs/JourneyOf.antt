-- What `line` and `play` answer: the journey of a side by the codes in the files. No file changes.
use Rattle.std.specs.Prelude.{◌≡◌, ℕ, ◌-◌, List, [], ◌++◌, length, map, MatchBool, Result, Ok, Err}
use Rattle.frz_board.specs.Boards.{Board}
use Rattle.frz_index.specs.Membership.{is_member}
use Rattle.frz_store.specs.Files.{Files, bytes_at}
use Rattle.frz_table.specs.declared.fault.TableFault.{TableFault}
use Rattle.frz_table.specs.Opening.{Contents, opened, own_format}
use Rattle.frz_journeys.specs.Links.{Link}
use Rattle.frz_atlas_prelude.specs.Behind.{TableBytes, link_of}
use Rattle.frz_atlas_prelude.specs.Loading.{opened_all}
use Rattle.frz_atlas_prelude.specs.BackFault.TheVariants.{Refused}
use Rattle.frz_answer.specs.Answers.{Answer, says}
use Rattle.frz_prelude.specs.Refusals.{refusal_line, status_of, table_status}
use Rattle.frz_prelude.specs.TableCauses.{table_line}
use Rattle.frz_prelude.specs.declared.refused.Refused.TheVariants as refusals
use Rattle.frz_atlas_prelude.specs.BackLines.{back_line}
use Rattle.frz_ways.specs.declared.opponent.Opponent.{Opponent}
use Rattle.frz_ways.specs.declared.opponent.Opponent.TheVariants as opponents
use Rattle.frz_ways.specs.declared.opponent.Player.{Player}
use Rattle.frz_ways.specs.declared.session_end.PlayFault.{PlayFault}
use Rattle.frz_ways.specs.declared.way_end.WayEnd.{WayEnd}
use Rattle.frz_ways.specs.Reading.{Input}
use Rattle.frz_ways.specs.Reading as reading
use Rattle.frz_journeys.specs.declared.place.Place.{Place}
use Rattle.frz_journeys.specs.declared.place.Place.TheVariants.{Own}
use Rattle.frz_journeys.specs.Arrivals.{Arrives}
use Rattle.frz_journeys.specs.Journeys.{Stage, IsJourney}
use Rattle.frz_journeys.specs.JourneyTexts.{journey_text}
use Rattle.frz_commands_journeys.specs.Endings.{answer_status, naming}

-- what a side hears of an input: a line is played against none
abbrev pub heard_by : Opponent → List ℕ → List ℕ
heard_by opponents.Codes input = []
heard_by opponents.Input input = input

-- the table in these bytes, which leans on those behind it where it begins so
abbrev pub own_table : Contents → List ℕ → Link
own_table contents bytes = link_of (record { bytes = bytes; contents = contents })

-- the player has these stages from the position, by the codes in the bytes of TABLE and of the
-- BACKs, and leaves this of what it heard
abbrev pub IsJourneyBy : Player → Board → Contents → List ℕ → List TableBytes → (heard : List ℕ) →
    List Stage → Input → Type 0
IsJourneyBy player p contents bytes tables heard stages left =
    IsJourney player.opponent player.side (map link_of tables) (own_table contents bytes) Own p
    (reading.opened heard) stages left

-- the text of the stages, and the naming line of an end for which the journey itself writes nothing
abbrev pub played_text : Player → List Stage → Place → Result WayEnd PlayFault → List ℕ
played_text player stages place answer =
    journey_text player.opponent player.side stages ++ naming place answer

-- the answer of a journey that arrives so: it takes all of the input that the journey does not leave
abbrev pub journey_answer : Player → (heard : List ℕ) → List Stage → Input → Place →
    Result WayEnd PlayFault → Files → Answer
journey_answer player heard stages left place answer files = record {
  status = answer_status answer;
  text = played_text player stages place answer;
  files = files;
  taken = length heard - length left.left;
}

-- the answer at a position of TABLE's set: its journey is told
pub record IsPlayed (player : Player) (p : Board) (contents : Contents) (bytes : List ℕ)
    (tables : List TableBytes) (heard : List ℕ) (files : Files) (a : Answer) : Type 0 where
  pub stages : List Stage
  pub left : Input
  pub journey : IsJourneyBy player p contents bytes tables heard stages left
  pub place : Place
  pub answer : Result WayEnd PlayFault
  pub arrives : Arrives player.side stages place answer
  pub told : a ≡ journey_answer player heard stages left place answer files

-- the answer where TABLE opens: the position has a journey or is outside TABLE's set, or the line
-- tells which BACK is refused first and why
abbrev pub IsPlayedOver : Player → Board → Contents → List ℕ →
    Result (List TableBytes) (ℕ × TableFault) → (heard : List ℕ) → Files → Answer → Type 0
IsPlayedOver player p contents bytes (Ok tables) heard files a =
    MatchBool (is_member contents.rules.groups p)
    (IsPlayed player p contents bytes tables heard files a)
    (a ≡ says (status_of refusals.Outside) (refusal_line refusals.Outside) files)
IsPlayedOver player p contents bytes (Err refused) heard files a =
    a ≡ says (table_status refused.1) (back_line refused.0 (Refused refused.1)) files

-- the answer, by how TABLE opens
abbrev pub IsPlayedBy : Player → Board → Result Contents TableFault → List ℕ →
    Result (List TableBytes) (ℕ × TableFault) → (heard : List ℕ) → Files → Answer → Type 0
IsPlayedBy player p (Ok contents) bytes behind heard files a =
    IsPlayedOver player p contents bytes behind heard files a
IsPlayedBy player p (Err fault) bytes behind heard files a =
    a ≡ says (table_status fault) (table_line fault) files

-- the answer by the files that have the names
abbrev pub IsPlayedAt : Player → List ℕ → List (List ℕ) → Board → (heard : List ℕ) → Files →
    Answer → Type 0
IsPlayedAt player table behind p heard files a =
    IsPlayedBy player p (opened own_format (files table)) (bytes_at files table)
    (opened_all (map files behind)) heard files a
