-- No journey over exact tables comes to a wrong code.
use Rattle.std.proofs.Common.{◌≡◌, ◌++◌, ℕ, zero, suc, List, [], ◌∷◌, take, Some, append_assoc, append-nil, sym, subst, ap, ◌∙◌}
use Rattle.std.specs.Prelude.{slice_get}
use Rattle.frz_board.specs.Boards.{Board}
use Rattle.frz_board.specs.declared.man.Colour.{Colour}
use Rattle.frz_board.specs.declared.man.Colour.TheVariants.{White, Black}
use Rattle.frz_sets.specs.Views.{GroupLine, RuleLines}
use Rattle.frz_sets.specs.declared.exit.Value.{Value}
use Rattle.frz_arena.specs.Arena.{IsLawful}
use Rattle.frz_arena.specs.Names.{IsNumbering}
use Rattle.frz_arena.specs.Turns.{IsClosed}
use Rattle.frz_arena.proofs.Lemmas.{right_reader}
use Rattle.frz_game.specs.Bounds.{IsTableOf}
use Rattle.frz_game.specs.Games.{arena_by, graph_by}
use Rattle.frz_game.specs.Numbers.{number_of, numbers_by}
use Rattle.frz_index.specs.Members.{Member, Num}
use Rattle.frz_backs.specs.Books.{Back}
use Rattle.frz_backs.specs.FileOn.{IsExactBack}
use Rattle.frz_backs.specs.Links.{AreExactOver, Link, backs_of, value_over}
use Rattle.frz_ways.specs.declared.opponent.Opponent.{Opponent}
use Rattle.frz_ways.specs.ChessGames.{after_plies}
use Rattle.frz_ways.specs.Reading.{Input}
use Rattle.frz_ways.specs.Ways.{EndOfWay, GoesOn, way_player}
use Rattle.frz_journeys.specs.declared.place.Place.{Place}
use Rattle.frz_journeys.specs.declared.place.Place.TheVariants.{Behind}
use Rattle.frz_journeys.specs.ExactJourneys.{EndsRight, IsExactOver}
use Rattle.frz_journeys.specs.JourneyGames.{AtLast}
use Rattle.frz_journeys.specs.Journeys.{IsJourney, IsStage, Stage}
use Rattle.frz_journeys.specs.Tables.{arena_over, codes_of}
use Rattle.frz_journeys.proofs.LastStage.{at_last}
use Rattle.frz_journeys.proofs.NextTables.{is_onward}

-- of tables that are exact from the left, over these
abbrev IsExactAt : List Back → List Link → ℕ → Link → Type 0
IsExactAt before links k next =
    IsExactBack next.rules (value_over next.leans next.rules (before ++ backs_of (take k links)))
    next.back

-- one is exact over those before it, and so are these
exact_at : (before : List Back) (links : List Link) (k : ℕ) (next : Link)
    → AreExactOver before links → slice_get links k ≡ Some next
    → IsExactAt before links k next × AreExactOver before (take k links)
unfolding AreExactOver
exact_at before [] k next exact there = absurd (cc)
exact_at before (link ∷ links) zero next exact there =
    let same : link ≡ next = cc in (
      subst (λ (l : Link). IsExactAt before (link ∷ links) zero l) same
          (subst (λ (bs : List Back). IsExactBack link.rules (value_over link.leans link.rules bs)
          link.back) (sym (append-nil before)) exact.0),
      tt,
    )
exact_at before (link ∷ links) (suc k) next exact there =
    let later = exact_at (before ++ link.back ∷ []) links k next exact.1 there in (
      subst (λ (bs : List Back). IsExactBack next.rules (value_over next.leans next.rules bs)
          next.back) (append_assoc before (link.back ∷ []) (backs_of (take k links))) later.0,
      (exact.0, later.1),
    )

table_of : (rules : RuleLines) (value : Board → Value) (side : Colour) (table : Link)
    → IsExactBack rules value table.back → IsTableOf rules value side (codes_of side table)
table_of rules value White table exact = exact.white
table_of rules value Black table exact = exact.black

-- what laws say of the games of rules
module _ (numbering : (rules : RuleLines) (value : Board → Value)
    → IsNumbering (numbers_by rules.groups) (arena_by rules value))
    (lawful : (rules : RuleLines) (value : Board → Value) → IsLawful (arena_by rules value))
    (closed : (rules : RuleLines) (value : Board → Value) → IsClosed (arena_by rules value))
    (numbered : (groups : List GroupLine) (p : Board) → Member groups p
    → number_of groups p ≡ Some (Num groups p)) (opponent : Opponent) (side : Colour) where
  stage_right : (before : List Link) (table : Link) (place : Place) (p : Board) (input : Input)
      (stage : Stage) (left : Input) → IsExactOver before table → Member table.rules.groups p
      → IsStage opponent side before table place p input stage left → EndsRight table stage
  stage_right before table place p input stage left exact member is at kept given e =
      let rules = table.rules in
      let value = value_over table.leans rules (backs_of before) in
      right_reader (numbers_by rules.groups) (arena_by rules value) (numbering rules value)
      (lawful rules value) (closed rules value) side (λ k. codes_of side table)
      (λ k. table_of rules value side table exact.own)
      (way_player (graph_by rules value) opponent side (λ k. codes_of side table)).opponent p
      stage.number
      (numbered rules.groups p member ∙ ap (λ (n : ℕ). Some n) (sym is.numbered)) input left
      stage.plies at kept given
      (subst (λ (x : EndOfWay). GoesOn (arena_over before table) opponent side
      (λ k. codes_of side table) 0 input stage.number stage.plies x left) e is.way)

  pub right_at_last : (before : List Link) (table : Link) (place : Place) (p : Board)
      (input : Input)
      (stages : List Stage) (left : Input) → IsExactOver before table → Member table.rules.groups p
      → IsJourney opponent side before table place p input stages left
      → AtLast EndsRight before table stages
  right_at_last before table place p input [] left exact member j = absurd j
  right_at_last before table place p input (stage ∷ stages) left exact member j =
      at_last opponent side EndsRight before table p stage stages j.0 left j.1.from
      (λ none. stage_right before table place p input stage j.0 exact member j.1)
      (λ next e h.
      let on = is_onward before table p stage.plies stage.end next e in
      let there = exact_at [] before next.0 next.1 exact.behind on.at.there in
      right_at_last (take next.0 before) next.1 (Behind next.0) (after_plies p stage.plies) j.0
      stages left
      (record { behind = there.1; own = there.0 }) on.at.holds h) j.2
