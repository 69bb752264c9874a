-- Where a journey over loaded tables arrives, and how the command ends then.
use Rattle.std.proofs.Common.{◌≡◌, ◌↔◌, ◌≤◌, refl, sym, ap, subst, ℕ, suc, List, [], ◌∷◌, length, map, false, Some, Ok, Err, Result, arith}
use Rattle.frz_board.specs.Boards.{Board}
use Rattle.frz_index.specs.Members.{Member}
use Rattle.frz_store.specs.Told.{SinkTold, SourceTold, StoreFine, StoreQuiet, StoreTold}
use Rattle.frz_table.specs.Opening.{contents_of}
use Rattle.frz_journeys.specs.BackTable.{BackTable}
use Rattle.frz_journeys.specs.Loaded.{link_loaded}
use Rattle.frz_atlas_prelude.specs.Behind.{TableBytes, link_of}
use Rattle.frz_atlas_prelude.specs.Held.{all_held}
use Rattle.frz_atlas_prelude.specs.Reading.{LoadsAtlas}
use Rattle.frz_atlas_prelude.specs.LoadedAtlas.{LoadedAtlas}
use Rattle.frz_answer.specs.Answers.{IsLines}
use Rattle.frz_answer.specs.declared.end.End.{End}
use Rattle.frz_answer.specs.Ends.{Ran}
use Rattle.frz_answer.specs.World.{world}
use Rattle.frz_atlas_prelude.specs.Names.{has_twice}
use Rattle.frz_atlas_prelude.specs.declared.names.TheConstants.{MOST_BACKS}
use Rattle.frz_atlas_prelude.proofs.Lemmas.{as_many_as_names}
use Rattle.frz_ways.specs.declared.end.LineFault.TheVariants as faults
use Rattle.frz_ways.specs.declared.opponent.Opponent.TheVariants.{Codes}
use Rattle.frz_ways.specs.declared.opponent.Player.{Player}
use Rattle.frz_ways.specs.declared.session_end.PlayFault.{PlayFault}
use Rattle.frz_ways.specs.declared.session_end.PlayFault.TheVariants as plays
use Rattle.frz_ways.specs.declared.way_end.WayEnd.{WayEnd}
use Rattle.frz_ways.specs.Reading.{opened as first_input}
use Rattle.frz_ways.specs.SessionFaults.{InputCause, MayHold, TookBytes, WroteBy}
use Rattle.frz_ways.specs.WayEnds.{IsAnswerOf}
use Rattle.frz_journeys.specs.declared.place.Arrival.{Arrival}
use Rattle.frz_journeys.specs.declared.place.Place.{Place}
use Rattle.frz_journeys.specs.declared.place.Place.TheVariants.{Own}
use Rattle.frz_journeys.specs.Playing.{TellsJourney}
use Rattle.frz_commands_line.proofs.Lemmas.{by_member}
use Rattle.frz_commands_journeys.specs.Endings.{EndsJourney, HasNearPlace, IsNear}
use Rattle.frz_commands_journeys.specs.JourneyOf.{own_table}
use Rattle.frz_commands_line.specs.WayJobs.{input_with}
use Rattle.frz_commands_journeys.specs.Journeying.{journeying_at}
use Rattle.frz_commands_journeys.proofs.InputHeard.{hears_what_it_took}
use Rattle.frz_commands_journeys.proofs.TablesLoaded.{told_by_files}
use Rattle.frz_commands_journeys.proofs.Near.{near_there}
use Rattle.frz_commands_journeys.proofs.JourneyEnds.{JourneyThere, journey_ran}

-- as many tables as were held
many_held : (tables : List TableBytes) → length (all_held tables) ≡ length (map link_of tables)
many_held [] = refl
many_held (table ∷ tables) = ap suc (many_held tables)

-- what is near is so where a code is wrong
near_wrong : (place : Place) (answer : Result WayEnd PlayFault) → IsNear place
    → HasNearPlace place answer
near_wrong place (Ok last) near = tt
near_wrong place (Err (plays.Line (faults.Wrong wrong))) near = near
near_wrong place (Err (plays.Line faults.Outside)) near = tt
near_wrong place (Err (plays.Line faults.NoBound)) near = tt
near_wrong place (Err (plays.Line faults.Store)) near = tt
near_wrong place (Err (plays.Line faults.Output)) near = tt
near_wrong place (Err (plays.Line faults.NoMemory)) near = tt
near_wrong place (Err plays.Input) near = tt
near_wrong place (Err (plays.Limit limit)) near = tt

-- what a journey wrote and took of the input that it was played against
abbrev pub WroteJourney : Player → LoadedAtlas → List BackTable → Board → Arrival →
    (told left : SourceTold) → (out mid : SinkTold) → (before now : ℕ) → Type 0
WroteJourney player given backs p arrival told left out mid before now =
    (text : List ℕ) × (took : List ℕ) × (whole : List ℕ) × IsLines text
    × WroteBy arrival.answer text out mid × TookBytes took told left × MayHold told whole
    × TellsJourney player.opponent player.side (map link_loaded backs)
    (link_loaded given.table) p whole took text arrival before now

module _ (there : JourneyThere) (player : Player) (table : List ℕ) (behind : List (List ℕ))
    (p : Board) (few : length behind ≤ MOST_BACKS) (store left_store : StoreTold)
    (given : LoadedAtlas) (l : LoadsAtlas table behind store left_store given)
    (told left : SourceTold) (out mid : SinkTold) (before now : ℕ) (arrival : Arrival)
    (outside : (arrival.answer ≡ Err (plays.Line faults.Outside))
    ↔ (Member given.table.table.rules.groups p → ⊥))
    (backs : List BackTable) (same_backs : backs ≡ given.backs.items)
    (w : WroteJourney player given backs p arrival told left out mid before now) where
  abbrev tells : TellsJourney player.opponent player.side (map link_of l.tables)
      (own_table (contents_of given.table.table) l.bytes) p w.2 w.1 w.0 arrival before now
  tells =
      told_by_files given l player p w.2 w.1 w.0 arrival before now
      (subst (λ (b : List BackTable). TellsJourney player.opponent player.side (map link_loaded b)
      (link_loaded given.table) p w.2 w.1 w.0 arrival before now) same_backs w.7)

  few_links : length (map link_of l.tables) ≤ MOST_BACKS
  few_links =
      let many = as_many_as_names store.files behind (all_held l.tables) l.may_all in
      let same = many_held l.tables in omega (arith, many, same, few)

  -- a wrong code is one of the tables that were named
  pub arrived_near : HasNearPlace arrival.place arrival.answer
  arrived_near =
      by_member given.table.table.rules.groups p
      (λ inside.
      let links = map link_of l.tables in
      let own = own_table (contents_of given.table.table) l.bytes in
      let j = there player.opponent player.side links own Own p (first_input w.2) in
      let so = tells inside j.0 j.1 j.2 in
      near_wrong arrival.place arrival.answer
      (near_there player.opponent player.side links own Own p (first_input w.2) j.0 j.1 few_links tt
      j.2 arrival.place so.0.there))
      (λ none. subst (λ (r : Result WayEnd PlayFault). HasNearPlace arrival.place r)
      (sym (outside.1 none)) tt)

  -- the command ends as the journey does
  pub loaded_ran : has_twice (table ∷ behind) ≡ false → StoreQuiet store left_store
      → StoreFine store left_store → before ≤ now
      → (player.opponent ≡ Codes → told.left ≡ Some [])
      → (arrival.answer ≡ Err (plays.Line faults.Outside)
      → (left ≡ told) × (mid ≡ out) × (now ≡ before))
      → IsAnswerOf arrival.answer player.opponent → InputCause arrival.answer told left
      → (end : End) (taken : SinkTold) → EndsJourney arrival.place arrival.answer end mid taken
      → (other : SourceTold)
      → Ran (journeying_at player table behind p) end
      (world store (input_with player.opponent told other) out before)
      (world left_store (input_with player.opponent left other) taken now)
  loaded_ran apart quiet fine later silent untouched kind cause end taken ends other =
      let heard = hears_what_it_took player.opponent told left other w.2 w.1 arrival.answer silent
      kind w.5 w.6
      cause in
      journey_ran player table behind p apart store left_store quiet fine given l
      (input_with player.opponent told other) (input_with player.opponent left other) out mid taken
      before now later there arrival end outside
      (λ is.
      let same = untouched is in
      (ap (λ (i : SourceTold). input_with player.opponent i other) same.0, same.1, same.2))
      kind ends (w.0, w.1, w.2, w.3, w.4, heard, tells)
