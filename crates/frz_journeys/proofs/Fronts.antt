-- What a journey is behind its first stage, and that it takes its input from the front.
use Rattle.std.proofs.Common.{◌≡◌, ℕ, List, [], ◌∷◌, take, Option, None, Some, sym, subst}
use Rattle.std.specs.Prelude.{MatchOption}
use Rattle.frz_board.specs.Boards.{Board}
use Rattle.frz_board.specs.declared.man.Colour.{Colour}
use Rattle.frz_backs.specs.Links.{Link}
use Rattle.frz_ways.specs.declared.opponent.Opponent.{Opponent}
use Rattle.frz_ways.specs.ChessGames.{after_plies}
use Rattle.frz_ways.specs.Hearing.{EndsWith}
use Rattle.frz_ways.specs.Reading.{Input}
use Rattle.frz_ways.proofs.Lemmas.{ends_itself, ends_on, way_front}
use Rattle.frz_journeys.specs.declared.place.Place.{Place}
use Rattle.frz_journeys.specs.declared.place.Place.TheVariants.{Behind}
use Rattle.frz_journeys.specs.Journeys.{Stage, IsJourney, onward}
use Rattle.frz_journeys.specs.Tables.{arena_over, codes_of}

-- what follows a stage with this table to go on, if there is one
abbrev pub Follows : Opponent → Colour → List Link → Stage → Board → Input → List Stage → Input →
    Option (ℕ × Link) → Type 0
Follows opponent side before stage start mid stages left next =
    MatchOption next ((stages ≡ []) × (left ≡ mid))
    (λ n. IsJourney opponent side (take n.0 before) n.1 (Behind n.0)
    (after_plies start stage.plies) mid stages left)

follows_front : (opponent : Opponent) (side : Colour) (before : List Link) (stage : Stage)
    (start : Board) (mid : Input) (stages : List Stage) (left : Input) (next : Option (ℕ × Link))
    → ((n : ℕ × Link) → IsJourney opponent side (take n.0 before) n.1 (Behind n.0)
    (after_plies start stage.plies) mid stages left → EndsWith left.left mid.left)
    → Follows opponent side before stage start mid stages left next → EndsWith left.left mid.left
follows_front opponent side before stage start mid stages left None later h =
    subst (λ (v : Input). EndsWith v.left mid.left) (sym h.1) (ends_itself mid.left)
follows_front opponent side before stage start mid stages left (Some n) later h = later n h

-- a journey takes its input from the front, and so does what follows its first stage
pub journey_front : (opponent : Opponent) (side : Colour) (before : List Link) (table : Link)
    (place : Place) (start : Board) (input : Input) (stages : List Stage) (left : Input)
    → IsJourney opponent side before table place start input stages left
    → EndsWith left.left input.left
journey_front opponent side before table place start input [] left j = absurd j
journey_front opponent side before table place start input (stage ∷ stages) left j =
    ends_on left.left j.0.left input.left
    (follows_front opponent side before stage start j.0 stages left
    (onward before table start stage.plies stage.end)
    (λ n h. journey_front opponent side (take n.0 before) n.1 (Behind n.0)
    (after_plies start stage.plies) j.0 stages left h) j.2)
    (way_front (arena_over before table) opponent side (λ k. codes_of side table) 0 input j.0
    (0, stage.number) stage.plies stage.end j.1.way)

pub later_front : (opponent : Opponent) (side : Colour) (before : List Link) (stage : Stage)
    (start : Board) (mid : Input) (stages : List Stage) (left : Input) (next : Option (ℕ × Link))
    → Follows opponent side before stage start mid stages left next → EndsWith left.left mid.left
later_front opponent side before stage start mid stages left next h =
    follows_front opponent side before stage start mid stages left next
    (λ n j. journey_front opponent side (take n.0 before) n.1 (Behind n.0)
    (after_plies start stage.plies) mid stages left j) h
