-- There is exactly one journey from a position.
use Rattle.std.proofs.Common.{◌≡◌, ◌≤◌, ℕ, zero, suc, List, [], ◌∷◌, Option, None, Some, length, take, refl, sym, subst, ap, ◌∙◌, arith}
use Rattle.std.specs.Prelude.{slice_index}
use Rattle.std.proofs.lemmas.List.{length-take}
use Rattle.frz_board.specs.Boards.{Board}
use Rattle.frz_board.specs.declared.man.Colour.{Colour}
use Rattle.frz_sets.specs.declared.exit.Value.{Value}
use Rattle.frz_sets.specs.Views.{RuleLines}
use Rattle.frz_index.specs.Members.{Num}
use Rattle.frz_game.specs.Games.{graph_by}
use Rattle.frz_backs.specs.Links.{Link, backs_of, value_over}
use Rattle.frz_ways.specs.declared.opponent.Opponent.{Opponent}
use Rattle.frz_ways.specs.ChessGames.{after_plies}
use Rattle.frz_ways.specs.Reading.{Input}
use Rattle.frz_ways.specs.Ways.{WayPly, EndOfWay, GoesOn}
use Rattle.frz_journeys.specs.declared.place.Place.{Place}
use Rattle.frz_journeys.specs.declared.place.Place.TheVariants.{Behind}
use Rattle.frz_journeys.specs.Journeys.{Stage, IsJourney, IsStage, onward}
use Rattle.frz_journeys.specs.Tables.{arena_over, codes_of}
use Rattle.frz_journeys.proofs.Fronts.{Follows}
use Rattle.frz_journeys.proofs.NextTables.{is_onward}

-- there is a way from each number, and only one
abbrev pub AreThere : Type 0
AreThere = (rules : RuleLines) (value : Board → Value) (opponent : Opponent)
    (side : Colour) (codes : ℕ → List ℕ) (start : ℕ) (input : Input) →
    (plies : List WayPly) × (end : EndOfWay) × (left : Input)
    × GoesOn (graph_by rules value) opponent side codes 0 input start plies end left

abbrev pub AreOne : Type 0
AreOne = (rules : RuleLines) (value : Board → Value) (opponent : Opponent)
    (side : Colour) (codes : ℕ → List ℕ) (start : ℕ) (input : Input)
    (plies others : List WayPly) (end last : EndOfWay) (left rest : Input) →
    GoesOn (graph_by rules value) opponent side codes 0 input start plies end left →
    GoesOn (graph_by rules value) opponent side codes 0 input start others last rest →
    (plies ≡ others) × (end ≡ last) × (left ≡ rest)

module _ (opponent : Opponent) (side : Colour) where
  abbrev IsThere : List Link → Link → Place → Board → Input → Type 0
  IsThere before table place start input =
      (stages : List Stage) × (left : Input)
      × IsJourney opponent side before table place start input stages left

  -- behind a stage, where each table that may go on has a journey
  from_stage : (before : List Link) (table : Link) (place : Place) (start : Board) (input : Input)
      (stage : Stage) (mid : Input)
      → IsStage opponent side before table place start input stage mid → (next : Option (ℕ × Link))
      → onward before table start stage.plies stage.end ≡ next
      → ((n : ℕ × Link) → next ≡ Some n
      → IsThere (take n.0 before) n.1 (Behind n.0) (after_plies start stage.plies) mid)
      → IsThere before table place start input
  from_stage before table place start input stage mid is None e later = (
    stage ∷ [],
    mid,
    (
      mid,
      is,
      subst (λ (o : Option (ℕ × Link)). Follows opponent side before stage start mid [] mid o) (sym e)
          (refl, refl),
    ),
  )
  from_stage before table place start input stage mid is (Some n) e later =
      let on = later n refl in (
        stage ∷ on.0,
        on.1,
        (
          mid,
          is,
          subst (λ (o : Option (ℕ × Link)). Follows opponent side before stage start mid on.0 on.1 o)
              (sym e) on.2,
        ),
      )

  module _ (there : AreThere) where
    -- the first stage
    first_stage : (before : List Link) (table : Link) (place : Place) (start : Board) (input : Input)
        → (stage : Stage) × (mid : Input)
        × IsStage opponent side before table place start input stage mid
    first_stage before table place start input =
        let number = Num table.rules.groups start in
        let w = there table.rules (value_over table.leans table.rules (backs_of before)) opponent side
        (λ k. codes_of side table) number input in (
          record {
            place = place;
            start = start;
            number = number;
            code = slice_index (codes_of side table) number;
            plies = w.0;
            end = w.1;
          },
          w.2,
          record { at = refl; from = refl; numbered = refl; kept = refl; way = w.3 },
        )

    -- over so many tables at most
    pub journey_there : (most : ℕ) (before : List Link) → length before ≤ most → (table : Link)
        (place : Place) (start : Board) (input : Input) → IsThere before table place start input
    journey_there zero before few table place start input =
        let s = first_stage before table place start input in
        from_stage before table place start input s.0 s.1 s.2
        (onward before table start s.0.plies s.0.end) refl
        (λ n e. absurd (let within = (is_onward before table start s.0.plies s.0.end n e).at.within in
        omega (arith, few, within)))
    journey_there (suc most) before few table place start input =
        let s = first_stage before table place start input in
        from_stage before table place start input s.0 s.1 s.2
        (onward before table start s.0.plies s.0.end) refl
        (λ n e. journey_there most (take n.0 before)
        (let within = (is_onward before table start s.0.plies s.0.end n e).at.within in
        let long = length-take n.0 before in omega (arith, few, within, long)) n.1 (Behind n.0)
        (after_plies start s.0.plies) s.1)

  same_stage : (s t : Stage) → s.place ≡ t.place → s.start ≡ t.start → s.number ≡ t.number
      → s.code ≡ t.code → s.plies ≡ t.plies → s.end ≡ t.end → s ≡ t
  same_stage s t place start number code plies end =
      ap (λ (q : Place). record s { place = q }) place
      ∙ ap (λ (b : Board). record s { place = t.place; start = b }) start
      ∙ ap (λ (n : ℕ). record s { place = t.place; start = t.start; number = n }) number
      ∙ ap (λ (n : ℕ). record t { code = n; plies = s.plies; end = s.end }) code
      ∙ ap (λ (l : List WayPly). record t { plies = l; end = s.end }) plies
      ∙ ap (λ (e : EndOfWay). record t { end = e }) end

  -- the stages from the same start
  module _ (one : AreOne) where
    stages_one : (before : List Link) (table : Link) (place : Place) (start : Board) (input : Input)
        (s t : Stage) (mid rest : Input)
        → IsStage opponent side before table place start input s mid
        → IsStage opponent side before table place start input t rest → (s ≡ t) × (mid ≡ rest)
    stages_one before table place start input s t mid rest a b =
        let number : s.number ≡ t.number = a.numbered ∙ sym b.numbered in
        let w = one table.rules (value_over table.leans table.rules (backs_of before)) opponent side
        (λ k. codes_of side table) t.number input s.plies t.plies s.end t.end mid rest
        (subst (λ n. GoesOn (arena_over before table) opponent side (λ k. codes_of side table) 0 input n
        s.plies s.end mid) number a.way) b.way in
        let code : s.code ≡ t.code =
        a.kept ∙ ap (slice_index (codes_of side table)) number ∙ sym b.kept in (
          same_stage s t (a.at ∙ sym b.at) (a.from ∙ sym b.from) number code w.0 w.1,
          w.2,
        )

    -- what follows
    follow_one : (before : List Link) (stage : Stage) (start : Board) (mid : Input)
        (stages others : List Stage) (left rest : Input) (next : Option (ℕ × Link))
        → ((n : ℕ × Link) → IsJourney opponent side (take n.0 before) n.1 (Behind n.0)
        (after_plies start stage.plies) mid stages left
        → IsJourney opponent side (take n.0 before) n.1 (Behind n.0)
        (after_plies start stage.plies) mid others rest → (stages ≡ others) × (left ≡ rest))
        → Follows opponent side before stage start mid stages left next
        → Follows opponent side before stage start mid others rest next
        → (stages ≡ others) × (left ≡ rest)
    follow_one before stage start mid stages others left rest None later a b =
        (a.0 ∙ sym b.0, a.1 ∙ sym b.1)
    follow_one before stage start mid stages others left rest (Some n) later a b = later n a b

    pub journey_one : (before : List Link) (table : Link) (place : Place) (start : Board)
        (input : Input) (stages others : List Stage) (left rest : Input)
        → IsJourney opponent side before table place start input stages left
        → IsJourney opponent side before table place start input others rest
        → (stages ≡ others) × (left ≡ rest)
    journey_one before table place start input [] others left rest a b = absurd a
    journey_one before table place start input (s ∷ stages) [] left rest a b = absurd b
    journey_one before table place start input (s ∷ stages) (t ∷ others) left rest a b =
        let same = stages_one before table place start input s t a.0 b.0 a.1 b.1 in
        let later = subst (λ (m : Input). Follows opponent side before s start m others rest
        (onward before table start s.plies s.end)) (sym same.1)
        (subst (λ (u : Stage). Follows opponent side before u start b.0 others rest
        (onward before table start u.plies u.end)) (sym same.0) b.2) in
        let both = follow_one before s start a.0 stages others left rest
        (onward before table start s.plies s.end)
        (λ n x y. journey_one (take n.0 before) n.1 (Behind n.0) (after_plies start s.plies) a.0 stages
        others left rest x y) a.2 later in (
          ap (λ (u : Stage). u ∷ stages) same.0 ∙ ap (λ (us : List Stage). t ∷ us) both.0,
          both.1,
        )
