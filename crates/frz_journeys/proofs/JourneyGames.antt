-- A journey is a game of chess.
use Rattle.std.proofs.Common.{◌≡◌, ℕ, true, List, [], ◌∷◌, ◌++◌, map, take, Option, None, Some, refl, sym, subst}
use Rattle.std.specs.Prelude.{◌↔◌, MatchOption, ⊤}
use Rattle.std.specs.List.{Contains}
use Rattle.std.proofs.lemmas.Option.{MatchOption-at_some}
use Rattle.frz_board.specs.Boards.{Board}
use Rattle.frz_board.specs.Moving.{Step, IsStep}
use Rattle.frz_board.specs.declared.man.Colour.{Colour}
use Rattle.frz_fide.specs.Legal.{after, is_legal}
use Rattle.frz_fide.specs.Listing.{legal_moves_of}
use Rattle.frz_sets.specs.declared.exit.Value.{Value}
use Rattle.frz_sets.specs.Views.{RuleLines}
use Rattle.frz_index.specs.Members.{Member}
use Rattle.frz_index.specs.Membership.{position_at}
use Rattle.frz_index.proofs.Lemmas.{position_of}
use Rattle.frz_game.specs.Games.{graph_by}
use Rattle.frz_backs.specs.Links.{Link, backs_of, value_over}
use Rattle.frz_ways.specs.declared.opponent.Opponent.{Opponent}
use Rattle.frz_ways.specs.ChessGames.{IsGame, after_plies}
use Rattle.frz_ways.specs.Reading.{Input}
use Rattle.frz_ways.specs.Ways.{WayPly, EndOfWay, GoesOn}
use Rattle.frz_ways.proofs.Lemmas.{placed_is_contained}
use Rattle.frz_journeys.specs.declared.place.Place.{Place}
use Rattle.frz_journeys.specs.declared.place.Place.TheVariants.{Behind}
use Rattle.frz_journeys.specs.JourneyGames.{AreLegalFrom, AtEach, IsGameBy, moves_of}
use Rattle.frz_journeys.specs.Journeys.{Stage, IsJourney, IsStage, onward}
use Rattle.frz_journeys.specs.Tables.{codes_of}
use Rattle.frz_journeys.proofs.Fronts.{Follows}
use Rattle.frz_journeys.proofs.NextTables.{is_onward}

-- ways are games
abbrev pub WaysAreGames : Type 0
WaysAreGames = (rules : RuleLines) (value : Board → Value) (opponent : Opponent)
    (side : Colour) (codes : ℕ → List ℕ) (start : ℕ) (input : Input)
    (plies : List WayPly) (end : EndOfWay) (left : Input) →
    GoesOn (graph_by rules value) opponent side codes 0 input start plies end left →
    MatchOption (position_at rules.groups start) (plies ≡ []) (λ p. IsGame rules side p plies)

abbrev pub MovesListed : Type 0
MovesListed = (p : Board) (m : Step)
    → Contains (legal_moves_of p) m ↔ (IsStep m × (is_legal p m ≡ true))

-- the moves of a game, before others from the position behind them
legal_game : MovesListed → (rules : RuleLines) (side : Colour) (plies : List WayPly) (p : Board)
    (rest : List Step) → IsGame rules side p plies → AreLegalFrom (after_plies p plies) rest
    → AreLegalFrom p (map (λ x. x.arm.mv) plies ++ rest)
legal_game listed rules side [] p rest game more = more
legal_game listed rules side (x ∷ plies) p rest game more = (
  ((listed p x.arm.mv).0 (placed_is_contained (legal_moves_of p) x.place x.arm.mv game.0.legal)).1,
  legal_game listed rules side plies (after p x.arm.mv) rest game.1 more,
)

module _ (games : WaysAreGames) (opponent : Opponent) (side : Colour) where
  -- a stage is a game from its position
  pub stage_game : (before : List Link) (table : Link) (place : Place) (start : Board) (input : Input)
      (stage : Stage) (left : Input) → Member table.rules.groups start
      → IsStage opponent side before table place start input stage left
      → IsGame table.rules side start stage.plies
  stage_game before table place start input stage left member is =
      let at : position_at table.rules.groups stage.number ≡ Some start =
      position_of table.rules.groups stage.number start
      (record { member = member; number = sym is.numbered }) in
      MatchOption-at_some (stage.plies ≡ []) (λ p. IsGame table.rules side p stage.plies) start at
      (games table.rules (value_over table.leans table.rules (backs_of before)) opponent side
      (λ k. codes_of side table) stage.number input stage.plies stage.end left is.way)

  module _ (listed : MovesListed) where
    legal_on : (before : List Link) (stage : Stage) (start : Board) (mid : Input)
        (stages : List Stage) (left : Input) (next : Option (ℕ × Link))
        → ((n : ℕ × Link) → next ≡ Some n → IsJourney opponent side (take n.0 before) n.1 (Behind n.0)
        (after_plies start stage.plies) mid stages left
        → AreLegalFrom (after_plies start stage.plies) (moves_of stages))
        → Follows opponent side before stage start mid stages left next
        → AreLegalFrom (after_plies start stage.plies) (moves_of stages)
    legal_on before stage start mid stages left None later h =
        subst (λ (l : List Stage). AreLegalFrom (after_plies start stage.plies) (moves_of l))
        (sym h.0) tt
    legal_on before stage start mid stages left (Some n) later h = later n refl h

    pub journey_legal : (before : List Link) (table : Link) (place : Place) (start : Board)
        (input : Input) (stages : List Stage) (left : Input) → Member table.rules.groups start
        → IsJourney opponent side before table place start input stages left
        → AreLegalFrom start (moves_of stages)
    journey_legal before table place start input [] left member j = tt
    journey_legal before table place start input (stage ∷ stages) left member j =
        legal_game listed table.rules side stage.plies start (moves_of stages)
        (stage_game before table place start input stage j.0 member j.1)
        (legal_on before stage start j.0 stages left (onward before table start stage.plies stage.end)
        (λ n e h. journey_legal (take n.0 before) n.1 (Behind n.0) (after_plies start stage.plies) j.0
        stages left (is_onward before table start stage.plies stage.end n e).at.holds h) j.2)

  each_on : (before : List Link) (stage : Stage) (start : Board) (mid : Input)
      (stages : List Stage) (left : Input) (next : Option (ℕ × Link))
      → ((n : ℕ × Link) → next ≡ Some n → IsJourney opponent side (take n.0 before) n.1 (Behind n.0)
      (after_plies start stage.plies) mid stages left
      → AtEach (IsGameBy side) (take n.0 before) n.1 stages)
      → Follows opponent side before stage start mid stages left next
      → MatchOption next ⊤ (λ n. AtEach (IsGameBy side) (take n.0 before) n.1 stages)
  each_on before stage start mid stages left None later h = tt
  each_on before stage start mid stages left (Some n) later h = later n refl h

  pub journey_games : (before : List Link) (table : Link) (place : Place) (start : Board)
      (input : Input) (stages : List Stage) (left : Input) → Member table.rules.groups start
      → IsJourney opponent side before table place start input stages left
      → AtEach (IsGameBy side) before table stages
  journey_games before table place start input [] left member j = tt
  journey_games before table place start input (stage ∷ stages) left member j =
      let from = sym j.1.from in (
        subst (λ (p : Board). IsGame table.rules side p stage.plies) from
            (stage_game before table place start input stage j.0 member j.1),
        subst (λ (p : Board). MatchOption (onward before table p stage.plies stage.end) ⊤
            (λ n. AtEach (IsGameBy side) (take n.0 before) n.1 stages)) from
            (each_on before stage start j.0 stages left
            (onward before table start stage.plies stage.end)
            (λ n e h. journey_games (take n.0 before) n.1 (Behind n.0)
            (after_plies start stage.plies) j.0 stages left
            (is_onward before table start stage.plies stage.end n e).at.holds h) j.2),
      )
