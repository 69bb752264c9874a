-- That each call has an answer, and only one.
use Rattle.std.proofs.Common.{◌≡◌, refl, sym, ap, subst, ◌∙◌, ℕ, List, [], map, Bool, true, false, Result, Ok, Err}
use Rattle.std.specs.Prelude.{MatchBool}
use Rattle.std.specs.Option.{unwrap_or}
use Rattle.frz_board.specs.Boards.{Board}
use Rattle.frz_board.specs.declared.man.Colour.{Colour}
use Rattle.frz_index.specs.Membership.{is_member}
use Rattle.frz_store.specs.Files.{Files}
use Rattle.frz_table.specs.declared.fault.TableFault.{TableFault}
use Rattle.frz_table.specs.Opening.{Contents, opened, own_format}
use Rattle.frz_journeys.specs.Links.{Link}
use Rattle.frz_atlas_prelude.specs.Behind.{TableBytes, link_of}
use Rattle.frz_atlas_prelude.specs.Loading.{opened_all}
use Rattle.frz_atlas_prelude.specs.BackFault.TheVariants.{Refused}
use Rattle.frz_answer.specs.Answers.{Answer, SomeAnswer, says}
use Rattle.frz_answer.specs.Lawful.{HasOneAnswer}
use Rattle.frz_prelude.specs.Refusals.{refusal_line, status_of, table_status}
use Rattle.frz_prelude.specs.TableCauses.{table_line}
use Rattle.frz_prelude.specs.declared.refused.Refused.TheVariants as refusals
use Rattle.frz_prelude.proofs.Lemmas.{refusal_said}
use Rattle.frz_atlas_prelude.specs.BackLines.{back_line}
use Rattle.frz_atlas_prelude.proofs.Lemmas.{back_line_not_empty}
use Rattle.frz_ways.specs.declared.opponent.Opponent.{Opponent}
use Rattle.frz_ways.specs.declared.opponent.Player.{Player}
use Rattle.frz_ways.specs.declared.session_end.PlayFault.{PlayFault}
use Rattle.frz_ways.specs.declared.way_end.WayEnd.{WayEnd}
use Rattle.frz_ways.specs.Reading.{Input, opened as first_input}
use Rattle.frz_journeys.specs.declared.place.Place.{Place}
use Rattle.frz_journeys.specs.declared.place.Place.TheVariants.{Own}
use Rattle.frz_journeys.specs.Arrivals.{Arrives}
use Rattle.frz_journeys.specs.Journeys.{IsJourney, Stage}
use Rattle.frz_commands_journeys.specs.JourneyOf.{IsPlayed, IsPlayedAt, IsPlayedBy, journey_answer, own_table}
use Rattle.frz_commands_journeys.proofs.JourneyEnds.{JourneyThere}
use Rattle.frz_commands_journeys.proofs.Texts.{arrival_of, journey_said, one_arrival, some_stages}

-- that there is no other journey
abbrev pub JourneyAlone : Type 0
JourneyAlone = (opponent : Opponent) (side : Colour) (before : List Link) (table : Link)
    (place : Place) (start : Board) (input : Input) (stages others : List Stage)
    (left rest : Input) → IsJourney opponent side before table place start input stages left
    → IsJourney opponent side before table place start input others rest
    → (stages ≡ others) × (left ≡ rest)

module _ (there : JourneyThere) (player : Player) (p : Board) (heard : List ℕ) (files : Files) where
  -- the answer at a position of the set, or outside
  abbrev ByMember : Contents → List ℕ → List TableBytes → Bool → Answer → Type 0
  ByMember contents bytes tables b a =
      MatchBool b (IsPlayed player p contents bytes tables heard files a)
      (a ≡ says (status_of refusals.Outside) (refusal_line refusals.Outside) files)

  some_played : (contents : Contents) (bytes : List ℕ) (tables : List TableBytes)
      → SomeAnswer (λ a. IsPlayed player p contents bytes tables heard files a)
  some_played contents bytes tables =
      let links = map link_of tables in
      let own = own_table contents bytes in
      let j = there player.opponent player.side links own Own p (first_input heard) in
      let at = arrival_of player.side j.0
      (some_stages player.opponent player.side links own Own p (first_input heard) j.0 j.1 j.2) in
      record {
        a = journey_answer player heard j.0 j.1 at.place at.answer files;
        answer = record {
          stages = j.0;
          left = j.1;
          journey = j.2;
          place = at.place;
          answer = at.answer;
          arrives = at.arrives;
          told = refl;
        };
        text = journey_said player j.0 at.place at.answer at.arrives;
      }

  some_member : (contents : Contents) (bytes : List ℕ) (tables : List TableBytes) (b : Bool)
      → SomeAnswer (λ a. ByMember contents bytes tables b a)
  some_member contents bytes tables true = some_played contents bytes tables
  some_member contents bytes tables false = record {
    a = says (status_of refusals.Outside) (refusal_line refusals.Outside) files;
    answer = refl;
    text = refusal_said refusals.Outside;
  }

  some_by : (x : Result Contents TableFault) (bytes : List ℕ)
      (y : Result (List TableBytes) (ℕ × TableFault))
      → SomeAnswer (λ a. IsPlayedBy player p x bytes y heard files a)
  some_by (Ok contents) bytes (Ok tables) =
      some_member contents bytes tables (is_member contents.rules.groups p)
  some_by (Ok contents) bytes (Err refused) = record {
    a = says (table_status refused.1) (back_line refused.0 (Refused refused.1)) files;
    answer = refl;
    text = back_line_not_empty refused.0 (Refused refused.1);
  }
  some_by (Err fault) bytes y = record {
    a = says (table_status fault) (table_line fault) files;
    answer = refl;
    text = refusal_said (refusals.Table fault);
  }

  module _ (alone : JourneyAlone) (a b : Answer) where
    one_played : (contents : Contents) (bytes : List ℕ) (tables : List TableBytes)
        → IsPlayed player p contents bytes tables heard files a
        → IsPlayed player p contents bytes tables heard files b → b ≡ a
    one_played contents bytes tables h k =
        let same = alone player.opponent player.side (map link_of tables) (own_table contents bytes)
        Own p (first_input heard) k.stages h.stages k.left h.left k.journey h.journey in
        let arrived = one_arrival player.side h.stages k.place h.place k.answer h.answer
        (subst (λ (s : List Stage). Arrives player.side s k.place k.answer) same.0 k.arrives)
        h.arrives in
        k.told
        ∙ ap (λ (s : List Stage). journey_answer player heard s k.left k.place k.answer files) same.0
        ∙ ap (λ (i : Input). journey_answer player heard h.stages i k.place k.answer files) same.1
        ∙ ap (λ (q : Place). journey_answer player heard h.stages h.left q k.answer files) arrived.0
        ∙ ap (λ (r : Result WayEnd PlayFault). journey_answer player heard h.stages h.left h.place r
        files) arrived.1
        ∙ sym h.told

    one_member : (contents : Contents) (bytes : List ℕ) (tables : List TableBytes) (t : Bool)
        → ByMember contents bytes tables t a → ByMember contents bytes tables t b → b ≡ a
    one_member contents bytes tables true h k = one_played contents bytes tables h k
    one_member contents bytes tables false h k = k ∙ sym h

    one_by : (x : Result Contents TableFault) (bytes : List ℕ)
        (y : Result (List TableBytes) (ℕ × TableFault))
        → IsPlayedBy player p x bytes y heard files a → IsPlayedBy player p x bytes y heard files b
        → b ≡ a
    one_by (Ok contents) bytes (Ok tables) h k =
        one_member contents bytes tables (is_member contents.rules.groups p) h k
    one_by (Ok contents) bytes (Err refused) h k = k ∙ sym h
    one_by (Err fault) bytes y h k = k ∙ sym h

-- by the files that have the names
module _ (there : JourneyThere) (player : Player) (table : List ℕ) (behind : List (List ℕ))
    (p : Board) (heard : List ℕ) (files : Files) where
  pub some_at : SomeAnswer (λ a. IsPlayedAt player table behind p heard files a)
  some_at =
      some_by there player p heard files (opened own_format (files table))
      (unwrap_or (files table) []) (opened_all (map files behind))

  pub one_at : JourneyAlone → HasOneAnswer (λ a. IsPlayedAt player table behind p heard files a)
  one_at alone = (
    some_at.a,
    some_at.answer,
    λ b k. one_by there player p heard files alone some_at.a b
        (opened own_format (files table)) (unwrap_or (files table) [])
        (opened_all (map files behind)) some_at.answer k,
  )
