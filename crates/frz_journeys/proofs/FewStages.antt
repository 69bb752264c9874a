-- A journey has few stages.
use Rattle.std.proofs.Common.{◌≡◌, ◌≤◌, ◌+◌, ℕ, List, [], ◌∷◌, take, Option, None, Some, length, refl, subst, sym, arith}
use Rattle.std.proofs.lemmas.List.{length-take}
use Rattle.frz_board.specs.Boards.{Board}
use Rattle.frz_board.specs.declared.man.Colour.{Colour}
use Rattle.frz_backs.specs.Links.{Link}
use Rattle.frz_ways.specs.declared.opponent.Opponent.{Opponent}
use Rattle.frz_ways.specs.ChessGames.{after_plies}
use Rattle.frz_ways.specs.Reading.{Input}
use Rattle.frz_journeys.specs.declared.place.Place.{Place}
use Rattle.frz_journeys.specs.declared.place.Place.TheVariants.{Behind}
use Rattle.frz_journeys.specs.Journeys.{Stage, IsJourney, onward}
use Rattle.frz_journeys.proofs.Fronts.{Follows}
use Rattle.frz_journeys.proofs.NextTables.{is_onward}

module _ (opponent : Opponent) (side : Colour) where
  few_later : (before : List Link) (stage : Stage) (start : Board) (mid : Input)
      (stages : List Stage) (left : Input) (next : Option (ℕ × Link))
      → ((n : ℕ × Link) → next ≡ Some n → IsJourney opponent side (take n.0 before) n.1 (Behind n.0)
      (after_plies start stage.plies) mid stages left → length stages ≤ length before)
      → Follows opponent side before stage start mid stages left next
      → length stages ≤ length before
  few_later before stage start mid stages left None later h =
      subst (λ (l : List Stage). length l ≤ length before) (sym h.0) (omega arith)
  few_later before stage start mid stages left (Some n) later h = later n refl h

  pub few_stages : (before : List Link) (table : Link) (place : Place) (start : Board)
      (input : Input) (stages : List Stage) (left : Input)
      → IsJourney opponent side before table place start input stages left
      → length stages ≤ 1 + length before
  few_stages before table place start input [] left j = absurd j
  few_stages before table place start input (stage ∷ stages) left j =
      let more = few_later before stage start j.0 stages left
      (onward before table start stage.plies stage.end)
      (λ n e h.
      let within = (is_onward before table start stage.plies stage.end n e).at.within in
      let few = few_stages (take n.0 before) n.1 (Behind n.0) (after_plies start stage.plies) j.0 stages
      left h in
      let long = length-take n.0 before in omega (arith, within, few, long)) j.2 in
      omega (arith, more)
