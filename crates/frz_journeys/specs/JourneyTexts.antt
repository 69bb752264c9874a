-- The text of a journey: that of each stage, behind the line of its table. A line from a hold ends
-- where a position comes again at its table.
use Rattle.std.specs.Prelude.{◌+◌, ◌<◌, ◌^◌, List, [], ◌∷◌, ◌++◌, ℕ, codes, decimal, ⊤}
use Rattle.frz_board.specs.declared.man.Colour.{Colour}
use Rattle.frz_ways.specs.declared.opponent.Opponent.{Opponent}
use Rattle.frz_ways.specs.Shown.{shown_text}
use Rattle.frz_journeys.specs.declared.place.Place.{Place}
use Rattle.frz_journeys.specs.declared.place.Place.TheVariants.{Own, Behind}
use Rattle.frz_journeys.specs.Journeys.{Stage}

-- a place of a list
abbrev pub IsSmall : Place → Type 0
IsSmall Own = ⊤
IsSmall (Behind place) = place + 1 < 2 ^ 64

-- the line before a stage at a table behind; the text counts places from 1
abbrev pub place_line : Place → List ℕ
place_line Own = []
place_line (Behind place) = codes "back " ++ decimal (place + 1) ++ codes "\n"

abbrev pub stage_text : Opponent → Colour → Stage → List ℕ
stage_text opponent side stage =
    place_line stage.place
    ++ shown_text opponent side stage.code stage.number stage.plies stage.end

abbrev pub journey_text : Opponent → Colour → List Stage → List ℕ
journey_text opponent side [] = []
journey_text opponent side (stage ∷ stages) =
    stage_text opponent side stage ++ journey_text opponent side stages
