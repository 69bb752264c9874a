-- Where a journey arrives, and what it answers there.
use Rattle.std.specs.Prelude.{◌≡◌, ◌≢◌, ℕ, List, [], ◌∷◌, Result, Ok, Err, ⊤}
use Rattle.frz_board.specs.declared.man.Colour.{Colour}
use Rattle.frz_ways.specs.declared.end.LineFault.TheVariants as faults
use Rattle.frz_ways.specs.declared.session_end.PlayFault.{PlayFault}
use Rattle.frz_ways.specs.declared.session_end.PlayFault.TheVariants as plays
use Rattle.frz_ways.specs.declared.way_end.WayEnd.{WayEnd}
use Rattle.frz_ways.specs.WayEnds.{told}
use Rattle.frz_journeys.specs.declared.place.Place.{Place}
use Rattle.frz_journeys.specs.Journeys.{Stage}

-- the last of these stages is at this place, and its end calls for this answer
abbrev pub Arrives : Colour → List Stage → Place → Result WayEnd PlayFault → Type 0
Arrives side [] place answer = ⊥
Arrives side (stage ∷ []) place answer = (place ≡ stage.place) × (answer ≡ told side stage.end)
Arrives side (stage ∷ next ∷ stages) place answer = Arrives side (next ∷ stages) place answer

-- where the last stage has an end of its own, some text is still to be written
abbrev pub StopsShort : Colour → List Stage → (rest : List ℕ) → Type 0
StopsShort side stages rest =
    (place : Place) (end : WayEnd) → Arrives side stages place (Ok end) → rest ≢ []

-- a journey answers at its last stage what the end there calls for, with its whole text written and
-- all that it takes of the input taken. Only a fault of the sink or of the input ends it earlier
abbrev pub Finishes : Colour → List Stage → Place → Result WayEnd PlayFault → (rest unread : List ℕ)
    → Type 0
Finishes side stages place (Err (plays.Line faults.Output)) rest unread = ⊤
Finishes side stages place (Err plays.Input) rest unread = StopsShort side stages rest
Finishes side stages place answer rest unread =
    Arrives side stages place answer × (rest ≡ []) × (unread ≡ [])
