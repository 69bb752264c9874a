-- What was written and taken of a journey: up to the end of a stage, or further.
use Rattle.std.proofs.Common.{◌≡◌, ◌≤◌, ◌++◌, ℕ, List, map, take, None, Some, Result, Ok, Err, sym, subst, ◌∙◌}
use Rattle.std.specs.Prelude.{slice_get}
use Rattle.frz_board.specs.Boards.{Board}
use Rattle.frz_board.specs.declared.man.Colour.{Colour}
use Rattle.frz_store.specs.Outside.{Rose}
use Rattle.frz_store.specs.Told.{SourceTold, SinkTold}
use Rattle.frz_answer.specs.Answers.{IsLines}
use Rattle.frz_answer.proofs.Lemmas.{lines_behind}
use Rattle.frz_index.specs.Members.{HasNumber}
use Rattle.frz_chain.specs.declared.back.BackTable.{BackTable}
use Rattle.frz_backs.specs.Links.{Link, backs_of, value_over}
use Rattle.frz_backs.specs.Loaded.{link_loaded}
use Rattle.frz_ways.specs.declared.end.LineFault.TheVariants as faults
use Rattle.frz_ways.specs.declared.hearing.Reader.{Reader}
use Rattle.frz_ways.specs.declared.opponent.Opponent.{Opponent}
use Rattle.frz_ways.specs.declared.session_end.PlayFault.{PlayFault}
use Rattle.frz_ways.specs.declared.session_end.PlayFault.TheVariants as plays
use Rattle.frz_ways.specs.declared.way_end.Finish.{Finish}
use Rattle.frz_ways.specs.declared.way_end.Finish.TheVariants.{Here, Left}
use Rattle.frz_ways.specs.declared.way_end.WayEnd.{WayEnd}
use Rattle.frz_ways.specs.Hearing.{StaysEnded}
use Rattle.frz_ways.specs.PlayLoaded.{IsSettled}
use Rattle.frz_ways.specs.SessionFaults.{InputCause, TookBytes, WroteBy}
use Rattle.frz_ways.specs.WayEnds.{IsFinishOf, ended}
use Rattle.frz_ways.proofs.Lemmas.{ended_wrote, stays_on, took_on, wrote_after}
use Rattle.frz_journeys.specs.declared.onward.Entry.{Entry}
use Rattle.frz_journeys.specs.declared.place.Arrival.{Arrival}
use Rattle.frz_journeys.specs.declared.place.Place.{Place}
use Rattle.frz_journeys.specs.declared.place.Place.TheVariants.{Behind}
use Rattle.frz_journeys.specs.JourneyTexts.{place_line}
use Rattle.frz_journeys.specs.Onward.{GoesOnward}
use Rattle.frz_journeys.specs.Playing.{PlaysJourney}
use Rattle.frz_journeys.specs.Tables.{arena_over, codes_of}
use Rattle.frz_journeys.proofs.Leaving.{AreGames}
use Rattle.frz_journeys.proofs.JourneySoFar.{ended_here, journey_went_on}
use Rattle.frz_journeys.proofs.StageWritten.{PlayedBehind, line_lines}

module _ (opponent : Opponent) (side : Colour) (before : List BackTable) (table : BackTable)
    (place : Place) (start : ℕ) where
  abbrev tables : List Link
  tables = map link_loaded before

  abbrev own : Link
  own = link_loaded table

  abbrev IsStagePlayed : (old new : Reader) → Result Finish PlayFault → (source left : SourceTold) →
      (out taken : SinkTold) → (steps now : ℕ) → Type 0
  IsStagePlayed = PlayedBehind (arena_over tables own) opponent side (codes_of side own) start place

  -- what was written and taken from the line of the place on
  abbrev pub PlayedOn : (old new : Reader) → Arrival → (source left : SourceTold) →
      (out taken : SinkTold) → (steps now : ℕ) → Type 0
  PlayedOn old new arrival source left out taken steps now =
      (text bytes : List ℕ) × IsLines text × WroteBy arrival.answer text out taken
      × TookBytes bytes source left × StaysEnded old new bytes
      × ((p : Board) → HasNumber table.table.rules.groups start p
      → PlaysJourney opponent side tables own place p old new bytes text arrival steps now)

  module _ (games : AreGames table.table.rules
      (value_over own.leans table.table.rules (backs_of tables)) opponent side (codes_of side own)
      start) where
    pub told_here : (old new : Reader) (finish : Result Finish PlayFault) (arrival : Arrival)
        (source left : SourceTold) (out taken : SinkTold) (steps now : ℕ)
        → arrival ≡ record { place = place; answer = ended finish }
        → GoesOnward table before finish None → IsSettled finish → IsFinishOf finish opponent
        → IsStagePlayed old new finish source left out taken steps now
        → PlayedOn old new arrival source left out taken steps now
    told_here old new finish arrival source left out taken steps now is none settled kind w =
        subst (λ (a : Arrival). PlayedOn old new a source left out taken steps now) (sym is) (
          place_line place ++ w.0,
          w.1,
          lines_behind (place_line place) w.0 (line_lines place) w.2,
          ended_wrote finish (place_line place ++ w.0) out taken w.3,
          w.4,
          w.5,
          λ p has. ended_here opponent side before table place start p has old new w.1 w.0 steps now
              games finish w.6 settled kind none,
        )

    module _ (old new later : Reader) (source mid left : SourceTold) (out between taken : SinkTold)
        (steps now after : ℕ) (entry : Entry) (next : BackTable)
        (there : slice_get before entry.place ≡ Some next) (arrival : Arrival) where
      -- by the table that was entered
      abbrev pub IsPlayedThere : Type 0
      IsPlayedThere =
          (text bytes : List ℕ) × IsLines text × WroteBy arrival.answer text between taken
          × TookBytes bytes mid left × StaysEnded new later bytes
          × ((q : Board) → HasNumber next.table.rules.groups entry.number q
          → PlaysJourney opponent side (map link_loaded (take entry.place before)) (link_loaded next)
          (Behind entry.place) q new later bytes text arrival now after)

      pub told_on : (finish : Result Finish PlayFault) → GoesOnward table before finish (Some entry)
          → IsStagePlayed old new finish source mid out between steps now → IsPlayedThere
          → PlayedOn old later arrival source left out taken steps after
      told_on (Ok (Here end)) onwards w v = absurd (cc)
      told_on (Err fault) onwards w v = absurd (cc)
      told_on (Ok (Left number move value)) onwards w v = (
        (place_line place ++ w.0) ++ v.0,
        w.1 ++ v.1,
        lines_behind (place_line place ++ w.0) v.0
            (lines_behind (place_line place) w.0 (line_lines place) w.2) v.2,
        wrote_after (place_line place ++ w.0) v.0 arrival.answer out between taken w.3 v.3,
        took_on w.1 v.1 source mid left w.4 v.4,
        stays_on old new later w.1 v.1 w.5 v.5,
        λ p has. journey_went_on opponent side before table place start p has old new w.1 w.0 steps
            now games
            number move value w.6 entry onwards next there later v.1 v.0 arrival after v.5 v.6,
      )

-- where the first part met no fault, the cause is that of the second
pub cause_on : (answer : Result WayEnd PlayFault) (old mid new : SourceTold)
    → mid.faults ≡ old.faults → InputCause answer mid new → InputCause answer old new
cause_on (Ok end) old mid new same h = h ∙ same
cause_on (Err (plays.Limit limit)) old mid new same h = h ∙ same
cause_on (Err (plays.Line fault)) old mid new same h = h ∙ same
cause_on (Err plays.Input) old mid new same h = record {
  later = subst (λ k. k ≤ new.faults) same h.later;
  rose = subst (λ k. Rose k new.faults) same h.rose;
}

-- a way that another table goes on met no fault
pub no_fault : (before : List BackTable) (table : BackTable) (finish : Result Finish PlayFault)
    (entry : Entry) → GoesOnward table before finish (Some entry) → (old new : SourceTold)
    → InputCause finish old new → new.faults ≡ old.faults
no_fault before table (Ok finish) entry onwards old new h = h
no_fault before table (Err fault) entry onwards old new h = absurd (cc)

pub settled_ended : (finish : Result Finish PlayFault) → IsSettled finish → IsSettled (ended finish)
settled_ended (Ok finish) h = tt
settled_ended (Err plays.Input) h = h
settled_ended (Err (plays.Limit limit)) h = h
settled_ended (Err (plays.Line faults.Outside)) h = h
settled_ended (Err (plays.Line faults.NoBound)) h = h
settled_ended (Err (plays.Line (faults.Wrong w))) h = h
settled_ended (Err (plays.Line faults.Store)) h = h
settled_ended (Err (plays.Line faults.Output)) h = h
settled_ended (Err (plays.Line faults.NoMemory)) h = h
