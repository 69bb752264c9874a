-- A journey keeps the bound of its start to its last stage.
use Rattle.std.proofs.Common.{◌≡◌, ◌⊎◌, ◌+◌, ◌*◌, ℕ, List, [], ◌∷◌, take, Option, None, Some, inl, inr, refl, sym, subst, ap, ◌∙◌}
use Rattle.std.specs.Prelude.{slice_index}
use Rattle.std.proofs.lemmas.List.Elements.{All-take}
use Rattle.frz_board.specs.Boards.{Board}
use Rattle.frz_board.specs.declared.man.Colour.{Colour}
use Rattle.frz_sets.specs.Views.{RuleLines}
use Rattle.frz_sets.specs.declared.exit.Value.{Value}
use Rattle.frz_arena.specs.Counted.{counted}
use Rattle.frz_arena.specs.declared.class.Class.TheVariants.{Good, Safe}
use Rattle.frz_arena.specs.WayEnds.{Wrong, NoBound, Mated, Stalemated, Exit, Cut, Stopped, EndsWon, EndsHeld}
use Rattle.frz_exits.specs.Values.{class_of}
use Rattle.frz_game.specs.Games.{graph_by}
use Rattle.frz_index.specs.Members.{Member, Num}
use Rattle.frz_index.specs.Membership.{position_at}
use Rattle.frz_index.proofs.Lemmas.{position_of}
use Rattle.frz_backs.specs.Counts.{counts_of}
use Rattle.frz_backs.specs.Values.{told_in}
use Rattle.frz_backs.specs.Links.{Link, backs_of, value_over}
use Rattle.frz_ways.specs.declared.opponent.Opponent.{Opponent}
use Rattle.frz_ways.specs.ChessGames.{after_plies}
use Rattle.frz_ways.specs.Reading.{Input}
use Rattle.frz_ways.specs.Ways.{WayPly, EndOfWay, GoesOn}
use Rattle.frz_journeys.specs.declared.place.Place.{Place}
use Rattle.frz_journeys.specs.declared.place.Place.TheVariants.{Behind}
use Rattle.frz_journeys.specs.JourneyGames.{AtLast}
use Rattle.frz_journeys.specs.Journeys.{Stage, IsJourney, IsStage, onward}
use Rattle.frz_journeys.specs.KeptBounds.{EndsHeldAt, EndsWonAt, HaveOwnSets, IsHeldAt, IsWonAt}
use Rattle.frz_journeys.specs.Tables.{arena_over, codes_of}
use Rattle.frz_journeys.proofs.LastStage.{LastBy, at_last}
use Rattle.frz_journeys.proofs.NextTables.{IsOnward, is_onward}
use Rattle.frz_journeys.proofs.ToldValues.{by_lines, by_table, good_wins, safe_holds}

-- an exit of a way has the value of the position behind its plies
abbrev pub ExitsTell : Type 0
ExitsTell = (rules : RuleLines) (value : Board → Value) (opponent : Opponent)
    (side : Colour) (codes : ℕ → List ℕ) (start : ℕ) (input : Input)
    (plies : List WayPly) (v : Value) (left : Input) (p : Board) →
    GoesOn (graph_by rules value) opponent side codes 0 input start plies (Exit v) left →
    position_at rules.groups start ≡ Some p → v ≡ value (after_plies p plies)

abbrev pub WinsKept : Type 0
WinsKept = (rules : RuleLines) (value : Board → Value) (opponent : Opponent)
    (side : Colour) (codes : ℕ → List ℕ) (start n : ℕ) (input : Input)
    (plies : List WayPly) (end : EndOfWay) (left : Input) →
    slice_index (codes 0) start ≡ 2 + 2 * n →
    GoesOn (graph_by rules value) opponent side codes 0 input start plies end left →
    EndsWon (counted (graph_by rules value)) side end

abbrev pub HoldsKept : Type 0
HoldsKept = (rules : RuleLines) (value : Board → Value) (opponent : Opponent)
    (side : Colour) (codes : ℕ → List ℕ) (start : ℕ) (input : Input)
    (plies : List WayPly) (end : EndOfWay) (left : Input) →
    slice_index (codes 0) start ≡ 1 →
    GoesOn (graph_by rules value) opponent side codes 0 input start plies end left →
    EndsHeld (counted (graph_by rules value)) side end

module _ (side : Colour) (before : List Link) (table : Link) (p : Board) (plies : List WayPly)
    (own : HaveOwnSets before) where
  abbrev Valued : EndOfWay → Type 0
  Valued end = (v : Value) → end ≡ Exit v
      → v ≡ value_over table.leans table.rules (backs_of before) (after_plies p plies)

  -- the last stage
  last_won : (end : EndOfWay) → EndsWon (counted (arena_over before table)) side end → Valued end
      → onward before table p plies end ≡ None → EndsWonAt side table (after_plies p plies) end
  last_won (Wrong at kept given) won valued none = tt
  last_won NoBound won valued none = won
  last_won (Mated mover) won valued none = won
  last_won (Stalemated mover) won valued none = won
  last_won (Exit v) won valued none = (
    by_lines before table (after_plies p plies) v own (valued v refl) none,
    won,
  )
  last_won Cut won valued none = won
  last_won (Stopped halt) won valued none = tt

  last_held : (end : EndOfWay) → EndsHeld (counted (arena_over before table)) side end
      → Valued end → onward before table p plies end ≡ None
      → EndsHeldAt side table (after_plies p plies) end
  last_held (Wrong at kept given) held valued none = tt
  last_held NoBound held valued none = held
  last_held (Mated mover) held valued none = held
  last_held (Stalemated mover) held valued none = tt
  last_held (Exit v) held valued none = (
    by_lines before table (after_plies p plies) v own (valued v refl) none,
    held,
  )
  last_held Cut held valued none = tt
  last_held (Stopped halt) held valued none = tt

  -- where a table goes on, what it has kept
  told_next : (end : EndOfWay) (next : ℕ × Link) → Valued end
      → (on : IsOnward before table p plies end next)
      → on.value ≡ told_in (counts_of (backs_of before)) next.1.back
      (Num next.1.rules.groups (after_plies p plies))
  told_next end next valued on =
      by_table before table (after_plies p plies) on.value next own (valued on.value on.out) on.at

  next_wins : (end : EndOfWay) (next : ℕ × Link)
      → EndsWon (counted (arena_over before table)) side end → Valued end
      → IsOnward before table p plies end next
      → (n : ℕ) × (slice_index (codes_of side next.1) (Num next.1.rules.groups (after_plies p plies))
      ≡ 2 + 2 * n)
  next_wins end next won valued on =
      let good : class_of on.value side ≡ Good =
      subst (λ (e : EndOfWay). EndsWon (counted (arena_over before table)) side e) on.out won in
      good_wins (counts_of (backs_of before)) side next.1 (Num next.1.rules.groups (after_plies p plies))
      (subst (λ (v : Value). class_of v side ≡ Good) (told_next end next valued on) good)

  -- a win, or a hold
  abbrev IsKept : ℕ → Type 0
  IsKept code = ((n : ℕ) × (code ≡ 2 + 2 * n)) ⊎ (code ≡ 1)

  held_by : (next : ℕ × Link) (v : Value)
      → v ≡ told_in (counts_of (backs_of before)) next.1.back
      (Num next.1.rules.groups (after_plies p plies))
      → (class_of v side ≡ Good) ⊎ (class_of v side ≡ Safe)
      → IsKept (slice_index (codes_of side next.1) (Num next.1.rules.groups (after_plies p plies)))
  held_by next v is (inl good) =
      inl (good_wins (counts_of (backs_of before)) side next.1 (Num next.1.rules.groups (after_plies p plies))
      (subst (λ (x : Value). class_of x side ≡ Good) is good))
  held_by next v is (inr safe) =
      inr (safe_holds (counts_of (backs_of before)) side next.1 (Num next.1.rules.groups (after_plies p plies))
      (subst (λ (x : Value). class_of x side ≡ Safe) is safe))

  next_held : (end : EndOfWay) (next : ℕ × Link)
      → EndsHeld (counted (arena_over before table)) side end → Valued end
      → IsOnward before table p plies end next
      → IsKept (slice_index (codes_of side next.1) (Num next.1.rules.groups (after_plies p plies)))
  next_held end next held valued on =
      held_by next on.value (told_next end next valued on)
      (subst (λ (e : EndOfWay). EndsHeld (counted (arena_over before table)) side e) on.out held)

-- what is won is held
won_is_held : (side : Colour) (table : Link) (last : Board) (end : EndOfWay)
    → EndsWonAt side table last end → EndsHeldAt side table last end
won_is_held side table last (Wrong at kept given) h = tt
won_is_held side table last NoBound h = h
won_is_held side table last (Mated mover) h = h
won_is_held side table last (Stalemated mover) h = tt
won_is_held side table last (Exit v) h = (h.0, inl h.1)
won_is_held side table last Cut h = tt
won_is_held side table last (Stopped halt) h = tt

weaker_by : (side : Colour) (before : List Link) (table : Link) (stage : Stage)
    (stages : List Stage) (next : Option (ℕ × Link))
    → ((n : ℕ × Link) → AtLast (IsWonAt side) (take n.0 before) n.1 stages
    → AtLast (IsHeldAt side) (take n.0 before) n.1 stages)
    → LastBy (IsWonAt side) before table stage stages next
    → LastBy (IsHeldAt side) before table stage stages next
weaker_by side before table stage stages None later h =
    won_is_held side table (after_plies stage.start stage.plies) stage.end h
weaker_by side before table stage stages (Some n) later h = later n h

won_at_last_is_held : (side : Colour) (before : List Link) (table : Link) (stages : List Stage)
    → AtLast (IsWonAt side) before table stages → AtLast (IsHeldAt side) before table stages
won_at_last_is_held side before table [] h = absurd h
won_at_last_is_held side before table (stage ∷ stages) h =
    weaker_by side before table stage stages (onward before table stage.start stage.plies stage.end)
    (λ n k. won_at_last_is_held side (take n.0 before) n.1 stages k) h

sets_before : (n : ℕ) (before : List Link) → HaveOwnSets before → HaveOwnSets (take n before)
sets_before n before own = All-take (λ (t : Link). t.back.groups ≡ t.rules.groups) n before own

module _ (exits : ExitsTell) (opponent : Opponent) (side : Colour) where
  -- the exit of a stage
  stage_valued : (before : List Link) (table : Link) (place : Place) (p : Board) (input : Input)
      (stage : Stage) (left : Input) → Member table.rules.groups p
      → IsStage opponent side before table place p input stage left
      → (v : Value) → stage.end ≡ Exit v
      → v ≡ value_over table.leans table.rules (backs_of before) (after_plies p stage.plies)
  stage_valued before table place p input stage left member is v e =
      exits table.rules (value_over table.leans table.rules (backs_of before)) opponent side
      (λ k. codes_of side table) stage.number input stage.plies v left p
      (subst (λ (x : EndOfWay). GoesOn (arena_over before table) opponent side
      (λ k. codes_of side table) 0 input stage.number stage.plies x left) e is.way)
      (position_of table.rules.groups stage.number p
      (record { member = member; number = sym is.numbered }))

  kept_code : (before : List Link) (table : Link) (place : Place) (p : Board) (input : Input)
      (stage : Stage) (left : Input) (c : ℕ)
      → IsStage opponent side before table place p input stage left
      → slice_index (codes_of side table) (Num table.rules.groups p) ≡ c
      → slice_index (codes_of side table) stage.number ≡ c
  kept_code before table place p input stage left c is e =
      ap (slice_index (codes_of side table)) is.numbered ∙ e

  module _ (wins : WinsKept) where
    pub won_on : (before : List Link) (table : Link) (place : Place) (p : Board) (input : Input)
        (stages : List Stage) (left : Input) (n : ℕ) → HaveOwnSets before
        → Member table.rules.groups p
        → slice_index (codes_of side table) (Num table.rules.groups p) ≡ 2 + 2 * n
        → IsJourney opponent side before table place p input stages left
        → AtLast (IsWonAt side) before table stages
    won_on before table place p input [] left n own member kept j = absurd j
    won_on before table place p input (stage ∷ stages) left n own member kept j =
        let is = j.1 in
        let won = wins table.rules (value_over table.leans table.rules (backs_of before)) opponent
        side (λ k. codes_of side table) stage.number n input stage.plies stage.end j.0
        (kept_code before table place p input stage j.0 (2 + 2 * n) is kept) is.way in
        let valued = stage_valued before table place p input stage j.0 member is in
        at_last opponent side (IsWonAt side) before table p stage stages j.0 left is.from
        (λ none. subst (λ (b : Board). EndsWonAt side table (after_plies b stage.plies) stage.end)
        (sym is.from) (last_won side before table p stage.plies own stage.end won valued none))
        (λ next e h.
        let on = is_onward before table p stage.plies stage.end next e in
        let code = next_wins side before table p stage.plies own stage.end next won valued on in
        won_on (take next.0 before) next.1 (Behind next.0) (after_plies p stage.plies) j.0 stages left
        code.0 (sets_before next.0 before own) on.at.holds code.1 h) j.2

    module _ (holds : HoldsKept) where
      pub held_on : (before : List Link) (table : Link) (place : Place) (p : Board) (input : Input)
          (stages : List Stage) (left : Input) → HaveOwnSets before → Member table.rules.groups p
          → slice_index (codes_of side table) (Num table.rules.groups p) ≡ 1
          → IsJourney opponent side before table place p input stages left
          → AtLast (IsHeldAt side) before table stages
      held_on before table place p input [] left own member kept j = absurd j
      held_on before table place p input (stage ∷ stages) left own member kept j =
          let is = j.1 in
          let held = holds table.rules (value_over table.leans table.rules (backs_of before)) opponent
          side (λ k. codes_of side table) stage.number input stage.plies stage.end j.0
          (kept_code before table place p input stage j.0 1 is kept) is.way in
          let valued = stage_valued before table place p input stage j.0 member is in
          at_last opponent side (IsHeldAt side) before table p stage stages j.0 left is.from
          (λ none. subst (λ (b : Board). EndsHeldAt side table (after_plies b stage.plies) stage.end)
          (sym is.from) (last_held side before table p stage.plies own stage.end held valued none))
          (λ next e h.
          let on = is_onward before table p stage.plies stage.end next e in
          elim (next_held side before table p stage.plies own stage.end next held valued on) [
            | inl won ↦ won_at_last_is_held side (take next.0 before) next.1 stages
                (won_on (take next.0 before) next.1 (Behind next.0) (after_plies p stage.plies) j.0
                stages left won.0 (sets_before next.0 before own) on.at.holds won.1 h)
            | inr hold ↦ held_on (take next.0 before) next.1 (Behind next.0)
                (after_plies p stage.plies) j.0 stages left (sets_before next.0 before own)
                on.at.holds hold h
          ]) j.2
