-- The squares on which men were counted.
use Rattle.std.proofs.Common.{◌≡◌, ℕ, zero, suc, ◌+◌, ◌<◌, ◌≤◌, ◌^◌, Bool, true, false, cond, not, ◌&&◌, ◌||◌, List, ◌∷◌, length, take, get_or, slice_index, refl, ap, sym, ◌∙◌, subst, arith, bit_or, inl, inr}
use Rattle.frz_fide.proofs.Lemmas.{same_tests}
use Rattle.std.specs.Prelude.{◌==◌}
use Rattle.std.specs.List.{AllByRecursion, list_any, slice_get}
use Rattle.std.proofs.Math.Seq.{take_all}
use Rattle.std.proofs.lemmas.Bool.{and_from, and_parts, cases_Bool, cases_eq, eq-eqb, eqb-true, or_right}
use Rattle.std.proofs.lemmas.Bool.Decides.{nat_tests}
use Rattle.std.proofs.lemmas.List.Folds.{list_any_more}
use Rattle.std.proofs.lemmas.Option.{slice_get_within}
use Rattle.frz_board.specs.Boards.{Board, is_empty}
use Rattle.frz_board.specs.Men.{cell_of_man}
use Rattle.frz_board.specs.declared.man.Kind.{Kind}
use Rattle.frz_squares.specs.SquareSets.{has_square, set_of}
use Rattle.frz_squares.proofs.Lemmas.{empty_set, has-or, has-set_of, has-zero}
use Rattle.frz_combinations.specs.Combinations.{places_below}
use Rattle.frz_sets.specs.Sets.{has_state, is_state}
use Rattle.frz_sets.specs.Views.{GroupLine}
use Rattle.frz_fide.specs.Valid.{IsValid}
use Rattle.frz_index.specs.Charts.{is_on}
use Rattle.frz_index.specs.Members.{Member}
use Rattle.frz_index.specs.Places.{AreCovered, AreSquares, IsWithinCount, places, stands}
use Rattle.frz_index.proofs.Charting.{some_at}
use Rattle.frz_index.proofs.RoomForMen.{any_at, any_found}

-- a place that passes both tests
pub record Passing (f q : ℕ → Bool) (n : ℕ) : Type 0 where
  pub place : ℕ
  pub low : place < n
  pub counted : f place ≡ true
  pub passes : q place ≡ true

passing_on : (f q : ℕ → Bool) (n : ℕ) → Passing f q n → Passing f q (suc n)
passing_on f q n h =
    record { place = h.place; low = omega (arith, h.low); counted = h.counted; passes = h.passes }

pub passing : (f q : ℕ → Bool) (n : ℕ) → list_any q (places_below f n) ≡ true → Passing f q n
passing f q zero h = absurd cc
passing f q (suc n) h =
    elim (cases_Bool (f n)) [
      | inl e ↦ elim (cases_Bool (q n)) [
        | inl t ↦ record { place = n; low = omega arith; counted = e; passes = t }
        | inr t ↦
            let all : (q n || list_any q (places_below f n)) ≡ true = sym
            (ap (λ b. list_any q (cond b (n ∷ places_below f n) (places_below f n))) e) ∙ h in
            passing_on f q n
            (passing f q n (sym (ap (λ b. b || list_any q (places_below f n)) t) ∙ all))
      ]
      | inr e ↦
          passing_on f q n
          (passing f q n (sym
          (ap (λ b. list_any q (cond b (n ∷ places_below f n) (places_below f n))) e) ∙ h))
    ]

passed : (f q : ℕ → Bool) (n k : ℕ) → k < n → f k ≡ true → q k ≡ true →
    list_any q (places_below f n) ≡ true
passed f q zero k l e t = absurd (omega (arith, l))
passed f q (suc n) k l e t =
    elim (cases_eq k n) [
      | inl same ↦
          ap (λ b. list_any q (cond b (n ∷ places_below f n) (places_below f n)))
          (ap f (sym same) ∙ e)
          ∙ ap (λ b. b || list_any q (places_below f n)) (ap q (sym same) ∙ t)
      | inr other ↦
          let rest = passed f q n k (omega (arith, l, other)) e t in
          elim (cases_Bool (f n)) [
            | inl on ↦
                ap (λ b. list_any q (cond b (n ∷ places_below f n) (places_below f n))) on
                ∙ or_right (q n) (list_any q (places_below f n)) rest
            | inr off ↦
                ap (λ b. list_any q (cond b (n ∷ places_below f n) (places_below f n))) off ∙ rest
          ]
    ]

-- the squares of the group's places are those on which a man stands as its states say
pub squares_of_group : (p : Board) (g : GroupLine) (squares : ℕ) →
    ((s : ℕ) → s < 64 → has_square squares s ≡ list_any (λ k. is_on s (slice_get g.states k))
    (places p g)) → AreSquares p g squares
squares_of_group p g squares h s low =
    h s low
    ∙ same_tests (list_any (λ k. is_on s (slice_get g.states k)) (places p g))
    (is_state (slice_index p.cells s) s g)
    (λ e.
    let found = passing (λ k. stands p g.colour (slice_get g.states k))
    (λ k. is_on s (slice_get g.states k)) (length g.states) e in
    let at = some_at g.states found.place found.low in
    let state = at.0 in
    let here : state.1 ≡ s = eqb-true state.1 s (sym (ap (is_on s) at.1) ∙ found.passes) in
    let man : slice_index p.cells state.1 ≡ cell_of_man
    (record { colour = g.colour; kind = state.0 }) = eqb-true _ _
    (sym (ap (stands p g.colour) at.1) ∙ found.counted) in
    any_at (λ (state : Kind × ℕ). cell_of_man (record { colour = g.colour; kind = state.0 })
    == slice_index p.cells s && state.1 == s) g.states found.place state at.1
    (and_from _ _ (eq-eqb _ _ (sym man ∙ ap (slice_index p.cells) here)) (eq-eqb state.1 s here)))
    (λ e.
    let found = any_found
    (λ (state : Kind × ℕ). cell_of_man (record { colour = g.colour; kind = state.0 })
    == slice_index p.cells s && state.1 == s) g.states e in
    let state = found.1 in
    let parts = and_parts
    (cell_of_man (record { colour = g.colour; kind = state.0 }) == slice_index p.cells s)
    (state.1 == s) found.3 in
    let here : state.1 ≡ s = eqb-true state.1 s parts.1 in
    let man : slice_index p.cells state.1 ≡ cell_of_man
    (record { colour = g.colour; kind = state.0 }) = ap (slice_index p.cells) here
    ∙ sym (eqb-true _ _ parts.0) in
    passed (λ k. stands p g.colour (slice_get g.states k)) (λ k. is_on s (slice_get g.states k))
    (length g.states) found.0 (slice_get_within g.states found.0 state found.2)
    (ap (stands p g.colour) found.2 ∙ eq-eqb _ _ man)
    (ap (is_on s) found.2 ∙ parts.1))

-- no group before the first covers a square
pub covered_none : (p : Board) (gs : List GroupLine) → AreCovered p (take 0 gs) 0
covered_none p gs s low = has-zero s

-- one group more
pub covered_on : (p : Board) (gs : List GroupLine) (i : ℕ) (g : GroupLine) (covered squares : ℕ) →
    i < length gs → g ≡ get_or gs i g → AreCovered p (take i gs) covered → AreSquares p g squares →
    AreCovered p (take (i + 1) gs) (bit_or covered squares)
covered_on p gs i g covered squares l e h one s low =
    has-or covered squares s
    ∙ ap (λ b. b || has_square squares s) (h s low)
    ∙ ap (λ b. has_state (take i gs) (slice_index p.cells s) s || b)
    (one s low ∙ ap (is_state (slice_index p.cells s) s) e)
    ∙ sym (list_any_more (is_state (slice_index p.cells s) s) gs i g l)

pub covered_all : (p : Board) (gs : List GroupLine) (i covered : ℕ) → length gs ≤ i →
    AreCovered p (take i gs) covered → AreCovered p gs covered
covered_all p gs i covered l h =
    subst (λ (xs : List GroupLine). AreCovered p xs covered) (take_all i gs l) h

-- the men on squares that no group covers
abbrev pub AreLeft : Board → ℕ → ℕ → Type 0
AreLeft p covered left =
    (s : ℕ) → s < 64 → has_square left s ≡ (not (is_empty p s) && not (has_square covered s))

-- the word that the code makes
pub left_of : (p : Board) (covered occupied left : ℕ) →
    occupied ≡ set_of (λ s. not (is_empty p s)) →
    ((s : ℕ) → s < 64 → has_square left s ≡ (has_square occupied s && not (has_square covered s))) →
    AreLeft p covered left
left_of p covered occupied left e h s low =
    h s low
    ∙ ap (λ b. b && not (has_square covered s))
    (ap (λ w. has_square w s) e ∙ has-set_of (λ s. not (is_empty p s)) s low)

pub none_left : (a b : Bool) → (not a && not b) ≡ false → a ≡ false → b ≡ true
none_left a true h e = refl
none_left a false h e = let wrong : true ≡ false = sym (ap (λ a. not a && true) e) ∙ h in cc

-- where none is left each man has a state
pub member : (gs : List GroupLine) (p : Board) (covered left : ℕ) → IsValid p →
    AreCovered p gs covered → AreLeft p covered left → left ≡ 0 →
    AllByRecursion (IsWithinCount p) gs → Member gs p
member gs p covered left v cover rest none counts =
    record {
      valid = v;
      men = λ s low some.
          let man : is_empty p s ≡ false = grind (arith, nat_tests) in
          let out : (not (is_empty p s) && not (has_square covered s)) ≡ false = sym (rest s low)
          ∙ ap (λ w. has_square w s) none ∙ has-zero s in
          sym (cover s low) ∙ none_left (is_empty p s) (has_square covered s) out man;
      counts = counts;
    }

pub not_left : (a b : Bool) → (a ≡ false → b ≡ true) → (not a && not b) ≡ false
not_left true b h = refl
not_left false b h = ap not (h refl)

-- in a position of the set none is left
pub left_none : (gs : List GroupLine) (p : Board) (covered left : ℕ) → left < 2 ^ 64 →
    AreCovered p gs covered → AreLeft p covered left → Member gs p → left ≡ 0
left_none gs p covered left small cover rest m =
    empty_set left small
    (λ s low. rest s low
    ∙ not_left (is_empty p s) (has_square covered s)
    (λ e. cover s low
    ∙ m.men s low (λ zero. let test : is_empty p s ≡ true = eq-eqb (slice_index p.cells s) 0 zero in
    cc)))
