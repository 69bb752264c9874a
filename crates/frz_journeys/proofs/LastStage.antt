-- What holds of the last stage of a journey, by the table that goes on from each.
use Rattle.std.proofs.Common.{◌≡◌, ℕ, List, ◌∷◌, take, Option, None, Some, refl, sym, subst}
use Rattle.std.specs.Prelude.{MatchOption}
use Rattle.frz_board.specs.Boards.{Board}
use Rattle.frz_board.specs.declared.man.Colour.{Colour}
use Rattle.frz_backs.specs.Links.{Link}
use Rattle.frz_ways.specs.declared.opponent.Opponent.{Opponent}
use Rattle.frz_ways.specs.ChessGames.{after_plies}
use Rattle.frz_ways.specs.Reading.{Input}
use Rattle.frz_journeys.specs.declared.place.Place.TheVariants.{Behind}
use Rattle.frz_journeys.specs.JourneyGames.{AtLast}
use Rattle.frz_journeys.specs.Journeys.{Stage, IsJourney, onward}
use Rattle.frz_journeys.proofs.Fronts.{Follows}

abbrev pub LastBy : (Link → Stage → Type 0) → List Link → Link → Stage → List Stage →
    Option (ℕ × Link) → Type 0
LastBy P before table stage stages next =
    MatchOption next (P table stage) (λ n. AtLast P (take n.0 before) n.1 stages)

module _ (opponent : Opponent) (side : Colour) (P : Link → Stage → Type 0) (before : List Link)
    (table : Link) (p : Board) (stage : Stage) (stages : List Stage) (mid left : Input) where
  last_by : (next : Option (ℕ × Link)) → onward before table p stage.plies stage.end ≡ next
      → (next ≡ None → P table stage)
      → ((n : ℕ × Link) → next ≡ Some n → IsJourney opponent side (take n.0 before) n.1 (Behind n.0)
      (after_plies p stage.plies) mid stages left → AtLast P (take n.0 before) n.1 stages)
      → Follows opponent side before stage p mid stages left next
      → LastBy P before table stage stages next
  last_by None e here later h = here refl
  last_by (Some n) e here later h = later n refl h

  -- the stage is the last, or the table that goes on has it
  pub at_last : stage.start ≡ p
      → (onward before table p stage.plies stage.end ≡ None → P table stage)
      → ((n : ℕ × Link) → onward before table p stage.plies stage.end ≡ Some n
      → IsJourney opponent side (take n.0 before) n.1 (Behind n.0)
      (after_plies p stage.plies) mid stages left → AtLast P (take n.0 before) n.1 stages)
      → Follows opponent side before stage p mid stages left
      (onward before table p stage.plies stage.end)
      → AtLast P before table (stage ∷ stages)
  at_last from here later h =
      subst (λ (b : Board). LastBy P before table stage stages
      (onward before table b stage.plies stage.end)) (sym from)
      (last_by (onward before table p stage.plies stage.end) refl here later h)
