-- Boards on which groups have the same digits have the same men of these groups.
use Rattle.std.proofs.Common.{◌≡◌, ◌≢◌, ℕ, ◌<◌, ◌≤◌, zero, suc, Bool, true, false, ◌&&◌, ◌||◌, cond, Some, List, [], ◌∷◌, length, map, slice_index, refl, ap, sym, ◌∙◌, arith, inl, inr}
use Rattle.std.specs.Prelude.{◌==◌}
use Rattle.std.specs.List.{AllByRecursion, list_any, slice_get}
use Rattle.std.proofs.lemmas.Bool.{and_parts, cases_eq, eq-eqb, eqb-true, false_from_ne_true, or_cases, or_left}
use Rattle.std.proofs.lemmas.Option.{slice_get_within}
use Rattle.frz_board.specs.declared.man.Kind.{Kind}
use Rattle.frz_board.specs.Boards.{Board, has}
use Rattle.frz_board.specs.Men.{cell_of_man}
use Rattle.frz_combinations.specs.Combinations.{places_below}
use Rattle.frz_combinations.specs.Selections.{selection_at}
use Rattle.frz_combinations.proofs.Lemmas.{places_descend, selection_at-digit}
use Rattle.frz_sets.specs.Sets.{has_state, is_state}
use Rattle.frz_sets.specs.Views.{GroupLine}
use Rattle.frz_index.specs.Places.{IsWithinCount, digit_of, places, stands}

-- an element that passes
pub record Passing {X : Type 0} (test : X → Bool) (xs : List X) : Type 0 where
  pub place : ℕ
  pub element : X
  pub there : slice_get xs place ≡ Some element
  pub passes : test element ≡ true

pub some_passes : {X : Type 0} (test : X → Bool) (xs : List X) → list_any test xs ≡ true →
    Passing test xs
some_passes test [] h = absurd cc
some_passes test (x ∷ xs) h = elim (or_cases (test x) (list_any test xs) h) [
  | inl y ↦ record { place = 0; element = x; there = refl; passes = y }
  | inr y ↦ (let rest = some_passes test xs y in
      record {
        place = suc rest.place;
        element = rest.element;
        there = rest.there;
        passes = rest.passes;
      })
]

-- a place from n on is not listed below n
not_listed : (f : ℕ → Bool) (n k : ℕ) → n ≤ k →
    list_any (λ j. j == k) (places_below f n) ≡ false
not_listed f zero k l = refl
not_listed f (suc n) k l =
    elim (f n) as (λ t. list_any (λ j. j == k) (cond t (n ∷ places_below f n) (places_below f n))
    ≡ false) [
      | true ↦ ap (λ x. x || list_any (λ j. j == k) (places_below f n))
          (false_from_ne_true (n == k) (λ e. let same = eqb-true n k e in absurd (omega arith)))
          ∙ not_listed f n k (omega arith)
      | false ↦ not_listed f n k (omega arith)
    ]

-- a place is listed where it passes
listed : (f : ℕ → Bool) (n k : ℕ) → k < n → list_any (λ j. j == k) (places_below f n) ≡ f k
listed f zero k l = absurd (omega arith)
listed f (suc n) k l = elim (cases_eq n k) [
  | inl e ↦ here e
  | inr ne ↦ later ne (listed f n k (omega arith))
]
  where
    here : n ≡ k → list_any (λ j. j == k) (places_below f (suc n)) ≡ f k
    here e =
        let either : (t : Bool) → f n ≡ t →
        list_any (λ j. j == k) (cond t (n ∷ places_below f n) (places_below f n)) ≡ t =
        λ t. elim t as (λ t. f n ≡ t →
        list_any (λ j. j == k) (cond t (n ∷ places_below f n) (places_below f n)) ≡ t) [
          | true ↦ λ x. or_left (n == k) (list_any (λ j. j == k) (places_below f n))
              (eq-eqb n k e)
          | false ↦ λ x. not_listed f n k (omega arith)
        ] in
        either (f n) refl ∙ ap f e

    later : n ≢ k → list_any (λ j. j == k) (places_below f n) ≡ f k →
        list_any (λ j. j == k) (places_below f (suc n)) ≡ f k
    later ne rest =
        elim (f n) as (λ t. list_any (λ j. j == k) (cond t (n ∷ places_below f n) (places_below f n))
        ≡ f k) [
          | true ↦ ap (λ x. x || list_any (λ j. j == k) (places_below f n))
              (false_from_ne_true (n == k) (λ e. ne (eqb-true n k e)))
              ∙ rest
          | false ↦ rest
        ]

-- the places are those of their digit
same_places : (x y : Board) (g : GroupLine) → IsWithinCount x g → IsWithinCount y g →
    digit_of x g ≡ digit_of y g → places x g ≡ places y g
same_places x y g hx hy e =
    let n = length g.states in
    sym (selection_at-digit n g.least g.most (places x g)
    (places_descend (λ k. stands x g.colour (slice_get g.states k)) n) hx.least hx.most)
    ∙ ap (selection_at n g.least g.most) e
    ∙ selection_at-digit n g.least g.most (places y g)
    (places_descend (λ k. stands y g.colour (slice_get g.states k)) n) hy.least hy.most

-- a man of the group stands on both boards
same_man : (x y : Board) (g : GroupLine) (cell s : ℕ) → slice_index x.cells s ≡ cell →
    is_state cell s g ≡ true → places x g ≡ places y g → slice_index y.cells s ≡ cell
same_man x y g cell s here h e =
    let test : Kind × ℕ → Bool = λ state.
    cell_of_man (record { colour = g.colour; kind = state.0 }) == cell && state.1 == s in
    let found = some_passes test g.states h in
    let state = found.element in
    let man = cell_of_man (record { colour = g.colour; kind = state.0 }) in
    let parts = and_parts (man == cell) (state.1 == s) found.passes in
    let is_cell = eqb-true man cell parts.0 in
    let is_square = eqb-true state.1 s parts.1 in
    let n = length g.states in
    let k = found.place in
    let within = slice_get_within g.states k state found.there in
    let f : ℕ → Bool = λ j. stands x g.colour (slice_get g.states j) in
    let t : ℕ → Bool = λ j. stands y g.colour (slice_get g.states j) in
    let first : f k ≡ true =
    ap (stands x g.colour) found.there
    ∙ eq-eqb (slice_index x.cells state.1) man
    (ap (slice_index x.cells) is_square ∙ here ∙ sym is_cell) in
    let second : t k ≡ true =
    sym (listed t n k within) ∙ ap (list_any (λ j. j == k)) (sym e) ∙ listed f n k within ∙ first in
    let stood : has y g.colour state.0 state.1 ≡ true =
    sym (ap (stands y g.colour) found.there) ∙ second in
    ap (slice_index y.cells) (sym is_square)
    ∙ eqb-true (slice_index y.cells state.1) man stood ∙ is_cell

-- a man of some group stands on both boards
pub carried : (x y : Board) (gs : List GroupLine) (cell s : ℕ) →
    AllByRecursion (IsWithinCount x) gs → AllByRecursion (IsWithinCount y) gs →
    map (digit_of x) gs ≡ map (digit_of y) gs → slice_index x.cells s ≡ cell →
    has_state gs cell s ≡ true → slice_index y.cells s ≡ cell
carried x y [] cell s hx hy e here h = absurd cc
carried x y (g ∷ gs) cell s hx hy e here h =
    let first : digit_of x g ≡ digit_of y g = cc in
    let rest : map (digit_of x) gs ≡ map (digit_of y) gs = cc in
    elim (or_cases (is_state cell s g) (has_state gs cell s) h) [
      | inl k ↦ same_man x y g cell s here k (same_places x y g hx.0 hy.0 first)
      | inr k ↦ carried x y gs cell s hx.1 hy.1 rest here k
    ]
