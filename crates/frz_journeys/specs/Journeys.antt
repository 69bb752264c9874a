-- A journey: the way of a side by the codes of one table after another.
use Rattle.std.specs.Prelude.{◌≡◌, ℕ, List, [], ◌∷◌, take, slice_index, Option, None, MatchOption}
use Rattle.frz_board.specs.Boards.{Board}
use Rattle.frz_board.specs.declared.man.Colour.{Colour}
use Rattle.frz_index.specs.Members.{Num}
use Rattle.frz_arena.specs.WayEnds.{Exit}
use Rattle.frz_backs.specs.Links.{Link}
use Rattle.frz_ways.specs.declared.opponent.Opponent.{Opponent}
use Rattle.frz_ways.specs.ChessGames.{after_plies}
use Rattle.frz_ways.specs.Reading.{Input}
use Rattle.frz_ways.specs.Ways.{WayPly, EndOfWay, GoesOn}
use Rattle.frz_journeys.specs.declared.place.Place.{Place}
use Rattle.frz_journeys.specs.declared.place.Place.TheVariants.{Behind}
use Rattle.frz_journeys.specs.Tables.{arena_over, codes_of, next_of}

-- a stage: at which table it is played, from which position, with the position's number there and
-- the code that is kept for it, by which plies, and to which end
pub record Stage : Type 0 where
  pub place : Place
  pub start : Board
  pub number : ℕ
  pub code : ℕ
  pub plies : List WayPly
  pub end : EndOfWay

-- the stage is the way of the side from the position by the codes of the table, and takes the input
-- from the first to the last
pub record IsStage
    (opponent : Opponent) (side : Colour) (before : List Link) (table : Link) (place : Place)
    (start : Board) (input : Input) (stage : Stage) (left : Input) : Type 0 where
  pub at : stage.place ≡ place
  pub from : stage.start ≡ start
  pub numbered : stage.number ≡ Num table.rules.groups start
  pub kept : stage.code ≡ slice_index (codes_of side table) stage.number
  pub way : GoesOn (arena_over before table) opponent side (λ k. codes_of side table) 0 input
      stage.number stage.plies stage.end left

-- the table that goes on behind a way from this position with these plies and this end: only behind
-- an exit is there one
abbrev pub onward : List Link → Link → Board → List WayPly → EndOfWay → Option (ℕ × Link)
onward before table start plies (Exit v) = next_of before table (after_plies start plies)
onward before table start plies end = None

-- from the position the side has these stages: the first at this table, and those that follow at
-- the tables that go on, each from the position to which the stage before it has led
abbrev pub IsJourney : Opponent → Colour → List Link → Link → Place → Board → Input → List Stage →
    Input → Type 0
IsJourney opponent side before table place start input [] left = ⊥
IsJourney opponent side before table place start input (stage ∷ stages) left =
    (mid : Input) × IsStage opponent side before table place start input stage mid
    × MatchOption (onward before table start stage.plies stage.end)
    ((stages ≡ []) × (left ≡ mid))
    (λ next. IsJourney opponent side (take next.0 before) next.1 (Behind next.0)
    (after_plies start stage.plies) mid stages left)
