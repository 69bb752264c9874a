-- What a journey writes and takes of the input, and what it costs.
use Rattle.std.specs.Prelude.{◌≡◌, ◌≤◌, ◌+◌, ℕ, List, ◌++◌, length, sum_by, Any}
use Rattle.frz_board.specs.Boards.{Board}
use Rattle.frz_board.specs.declared.man.Colour.{Colour}
use Rattle.frz_arena.specs.declared.arm.Next.TheVariants.{Inside}
use Rattle.frz_index.specs.Members.{Member}
use Rattle.frz_backs.specs.Links.{Link}
use Rattle.frz_ways.specs.declared.hearing.Reader.{Reader}
use Rattle.frz_ways.specs.declared.opponent.Opponent.{Opponent}
use Rattle.frz_ways.specs.Costs.{way_numbers}
use Rattle.frz_ways.specs.Hearing.{MayFollow}
use Rattle.frz_ways.specs.Reading.{Input, opened}
use Rattle.frz_journeys.specs.declared.place.Arrival.{Arrival}
use Rattle.frz_journeys.specs.declared.place.Place.{Place}
use Rattle.frz_journeys.specs.declared.place.Place.TheVariants.{Own}
use Rattle.frz_journeys.specs.Arrivals.{Finishes}
use Rattle.frz_journeys.specs.Journeys.{Stage, IsJourney}
use Rattle.frz_journeys.specs.JourneyTexts.{journey_text}

-- how much of a journey was played: its text begins with what was written, and what it takes of the
-- input begins with what was taken. It stopped at one of its stages
pub record JourneyPlayed
    (opponent : Opponent) (side : Colour) (input bytes text : List ℕ) (arrival : Arrival)
    (stages : List Stage) (left : Input) : Type 0 where
  pub rest : List ℕ
  pub unread : List ℕ
  pub begins : text ++ rest ≡ journey_text opponent side stages
  pub takes : bytes ++ (unread ++ left.left) ≡ input
  pub finishes : Finishes side stages arrival.place arrival.answer rest unread
  pub there : Any (λ stage. stage.place ≡ arrival.place) stages

-- at how many numbers the moves are listed: each to which a stage comes
abbrev pub numbers_of : Stage → ℕ
numbers_of stage = length (way_numbers (Inside (0, stage.number)) stage.plies)

abbrev pub turns_in : List Stage → ℕ
turns_in stages = sum_by numbers_of stages

-- each journey from the position at this table that takes its input from where the reader was
-- begins with this text and these bytes, and is played so far in one step a number at most. Behind
-- the bytes stands what may follow
abbrev pub PlaysJourney : Opponent → Colour → List Link → Link → Place → Board → (old new : Reader) →
    (bytes text : List ℕ) → Arrival → (before now : ℕ) → Type 0
PlaysJourney opponent side tables table place start old new bytes text arrival before now =
    (left : List ℕ) → MayFollow new left → (stages : List Stage) (last : Input) →
    IsJourney opponent side tables table place start
    (record { left = bytes ++ left; more = old.more }) stages last →
    JourneyPlayed opponent side (bytes ++ left) bytes text arrival stages last
    × (now ≤ before + turns_in stages)

-- the text and the bytes are those of the journey from a position of the table's set against this
-- input, as far as it was played, and in one step a number at most
abbrev pub TellsJourney : Opponent → Colour → List Link → Link → Board →
    (input bytes text : List ℕ) → Arrival → (before now : ℕ) → Type 0
TellsJourney opponent side tables table p input bytes text arrival before now =
    Member table.rules.groups p → (stages : List Stage) (left : Input) →
    IsJourney opponent side tables table Own p (opened input) stages left →
    JourneyPlayed opponent side input bytes text arrival stages left
    × (now ≤ before + turns_in stages)
