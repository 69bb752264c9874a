-- The tables of a journey are among those that a command takes.
use Rattle.std.proofs.Common.{◌≡◌, ◌<◌, ◌≤◌, refl, sym, subst, ap, ℕ, zero, suc, List, [], ◌∷◌, take, length, Option, Some, None, arith}
use Rattle.std.specs.Prelude.{Any, MatchOption, slice_index_or}
use Rattle.std.proofs.lemmas.List.{length-take}
use Rattle.frz_board.specs.Boards.{Board}
use Rattle.frz_board.specs.declared.man.Colour.{Colour}
use Rattle.frz_journeys.specs.Links.{Link}
use Rattle.frz_atlas_prelude.specs.declared.names.TheConstants.{MOST_BACKS}
use Rattle.frz_ways.specs.declared.opponent.Opponent.{Opponent}
use Rattle.frz_ways.specs.ChessGames.{after_plies}
use Rattle.frz_ways.specs.Reading.{Input}
use Rattle.frz_journeys.specs.declared.place.Place.{Place}
use Rattle.frz_journeys.specs.declared.place.Place.TheVariants.{Behind}
use Rattle.frz_journeys.specs.Journeys.{Stage, IsJourney, onward}
use Rattle.frz_journeys.proofs.Lemmas.{is_onward}
use Rattle.frz_commands_journeys.specs.Endings.{IsNear}

module _ (opponent : Opponent) (side : Colour) where
  -- the stages behind one, where a table goes on or none does
  abbrev Follows : List Link → Stage → Board → Input → List Stage → Input → Option (ℕ × Link) → Type 0
  Follows before stage start mid stages left next =
      MatchOption next ((stages ≡ []) × (left ≡ mid))
      (λ n. IsJourney opponent side (take n.0 before) n.1 (Behind n.0)
      (after_plies start stage.plies) mid stages left)

  later_near : (before : List Link) (stage : Stage) (start : Board) (mid : Input)
      (stages : List Stage) (left : Input) (x : Stage) → (stages ≡ [] → ⊥)
      → (next : Option (ℕ × Link))
      → ((n : ℕ × Link) → next ≡ Some n
      → IsJourney opponent side (take n.0 before) n.1 (Behind n.0) (after_plies start stage.plies)
      mid stages left → IsNear x.place)
      → Follows before stage start mid stages left next → IsNear x.place
  later_near before stage start mid stages left x some None later h = absurd (some h.0)
  later_near before stage start mid stages left x some (Some n) later h = later n refl h

  all_near : (before : List Link) (table : Link) (place : Place) (start : Board) (input : Input)
      (stages : List Stage) (left : Input) → length before ≤ MOST_BACKS → IsNear place
      → IsJourney opponent side before table place start input stages left
      → (k : ℕ) (x : Stage) → k < length stages → slice_index_or stages k x ≡ x → IsNear x.place
  all_near before table place start input [] left few near j k x within is = absurd j
  all_near before table place start input (stage ∷ stages) left few near j zero x within is =
      subst (λ (s : Stage). IsNear s.place) is (subst IsNear (sym j.1.at) near)
  all_near before table place start input (stage ∷ stages) left few near j (suc k) x within is =
      later_near before stage start j.0 stages left x
      (λ e. let none : length stages ≡ 0 = ap length e in omega (arith, none, within))
      (onward before table start stage.plies stage.end)
      (λ n e h.
      let below = (is_onward before table start stage.plies stage.end n e).at.within in
      let fewer = length-take n.0 before in
      all_near (take n.0 before) n.1 (Behind n.0) (after_plies start stage.plies) j.0 stages left
      (omega (arith, few, below, fewer)) (omega (arith, few, below)) h k x (omega (arith, within))
      is)
      j.2

  -- where a journey stopped
  pub near_there : (before : List Link) (table : Link) (place : Place) (start : Board)
      (input : Input) (stages : List Stage) (left : Input) → length before ≤ MOST_BACKS
      → IsNear place → IsJourney opponent side before table place start input stages left
      → (at : Place) → Any (λ stage. stage.place ≡ at) stages → IsNear at
  near_there before table place start input stages left few near j at (k, x, within, is, there) =
      subst IsNear there
      (all_near before table place start input stages left few near j k x within is)
