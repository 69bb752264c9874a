-- A man taken off the board: the cells, and the digits of the groups.
use Rattle.std.proofs.Common.{◌≡◌, ◌≢◌, ℕ, ◌+◌, ◌-◌, ◌<◌, Bool, true, false, cond, Option, None, Some, List, [], ◌∷◌, length, slice_index, slice_set, refl, ap, sym, ◌∙◌, arith, inl, inr, length-set}
use Rattle.std.specs.Prelude.{◌==◌}
use Rattle.std.specs.List.{slice_get}
use Rattle.std.proofs.lemmas.Bool.{cases_eq, eqb-true, eq-eqb, false_from_ne_true}
use Rattle.std.proofs.lemmas.Grind.{same_number_lists}
use Rattle.std.proofs.lemmas.Option.{same_Some, slice_get_within}
use Rattle.frz_board.proofs.Lemmas.{set_at}
use Rattle.frz_board.specs.declared.man.Kind.{Kind}
use Rattle.frz_board.specs.declared.man.Man.{Man}
use Rattle.frz_board.specs.Boards.{Board}
use Rattle.frz_board.specs.Men.{cell_of_man}
use Rattle.frz_combinations.proofs.Lemmas.{choose-one, choose-zero}
use Rattle.frz_combinations.specs.Binomials.{choose}
use Rattle.frz_combinations.specs.Selections.{choices, digit}
use Rattle.frz_sets.specs.Sets.{is_state}
use Rattle.frz_sets.specs.Views.{GroupLine}
use Rattle.frz_index.proofs.Counting.{skip}
use Rattle.frz_index.proofs.Stepping.{Shifts, no_man, not_the_man, one_place, single, stands_there, unshifted}
use Rattle.frz_index.specs.Places.{IsWithinCount, digit_of, places, stands}
use Rattle.frz_index.specs.Stepping.{IsPlace, IsStep, stepped}

-- the board with the square empty
abbrev pub without : Board → ℕ → Board
without p b = record { cells = slice_set p.cells b 0; turn = p.turn; ep = p.ep }

module _ (p : Board) (taken : Man) (b : ℕ) (size : length p.cells ≡ 64) (low : b < 64)
    (stood : slice_index p.cells b ≡ cell_of_man taken) where
  abbrev r : Board
  r = without p b

  pub at_taken : slice_index r.cells b ≡ 0
  at_taken =
      set_at p.cells b 0 b (omega (arith, size, low))
      ∙ ap (λ t. cond t 0 (slice_index p.cells b)) (eq-eqb b b refl)

  pub at_others : (s : ℕ) → s ≢ b → slice_index r.cells s ≡ slice_index p.cells s
  at_others s n =
      set_at p.cells b 0 s (omega (arith, size, low))
      ∙ ap (λ t. cond t 0 (slice_index p.cells s))
      (false_from_ne_true (s == b) (λ t. n (eqb-true s b t)))

  -- a group that has not the man there
  module _ (g : GroupLine) (off : is_state (cell_of_man taken) b g ≡ false) where
    same_stand : (j : ℕ) (o : Option (Kind × ℕ)) → slice_get g.states j ≡ o →
        stands r g.colour o ≡ stands p g.colour o
    same_stand j None e = refl
    same_stand j (Some st) e =
        elim (cases_eq st.1 b) [
          | inl here ↦
              no_man (slice_index r.cells st.1) g.colour st.0
              (ap (slice_index r.cells) here ∙ at_taken)
              ∙ sym (ap (λ x. x == cell_of_man (record { colour = g.colour; kind = st.0 }))
              (ap (slice_index p.cells) here ∙ stood) ∙ not_the_man g taken j st b e here off)
          | inr other ↦
              ap (λ x. x == cell_of_man (record { colour = g.colour; kind = st.0 }))
              (at_others st.1 other)
        ]

    pub rests : IsWithinCount p g → Shifts p r (cell_of_man taken) b b g 0 0
    rests = unshifted p r (cell_of_man taken) b b g same_stand (λ t. t)

  -- a group that has the man there and no other, and may be empty
  module _ (g : GroupLine) (k : ℕ) (there : IsPlace g taken b k) (one : g.most ≡ 1)
      (spare : g.least ≡ 0) (w : IsWithinCount p g) where
    abbrev f : ℕ → Bool
    f j = stands p g.colour (slice_get g.states j)

    inside : k < length g.states
    inside = slice_get_within g.states k (taken.kind, b) there.1

    on : f k ≡ true
    on = stands_there g taken p b k there stood

    before_is : places p g ≡ k ∷ []
    before_is = single f (length g.states) k inside on (omega (arith, w.most, one))

    none_stands : (j : ℕ) (o : Option (Kind × ℕ)) → slice_get g.states j ≡ o →
        j < length g.states → stands r g.colour o ≡ true → ⊥
    none_stands j None e l t = absurd cc
    none_stands j (Some st) e l t =
        let man = cell_of_man (record { colour = g.colour; kind = st.0 }) in
        elim (cases_eq st.1 b) [
          | inl here ↦
              let off = no_man (slice_index r.cells st.1) g.colour st.0
              (ap (slice_index r.cells) here ∙ at_taken) in
              absurd cc
          | inr other ↦
              let stays : f j ≡ true = ap (stands p g.colour) e
              ∙ ap (λ x. x == man) (sym (at_others st.1 other)) ∙ t in
              let same = one_place f (length g.states) j k l inside stays on
              (omega (arith, w.most, one)) in
              let states = same_Some st (taken.kind, b)
              (sym e ∙ ap (slice_get g.states) same ∙ there.1) in
              absurd (other (ap (λ (x : Kind × ℕ). x.1) states))
        ]

    after_is : places r g ≡ []
    after_is =
        skip (λ j. stands r g.colour (slice_get g.states j)) 0 (length g.states) (omega arith)
        (λ j from l. false_from_ne_true (stands r g.colour (slice_get g.states j))
        (none_stands j (slice_get g.states j) refl l))

    pub goes : Shifts p r (cell_of_man taken) b b g 0 (k + 1)
    goes =
        let s = length g.states in
        let size_after = ap length after_is in
        let dp : digit_of p g ≡ choices s g.least (1 - g.least) + (choose k 1 + 0) =
        ap (digit s g.least) before_is in
        let dr : digit_of r g ≡ choices s g.least (0 - g.least) + 0 =
        ap (digit s g.least) after_is in
        let first : choices s g.least (1 - g.least) ≡ choose s 0 + 0 =
        ap (λ l. choices s l (1 - l)) spare in
        let none : choices s g.least (0 - g.least) ≡ 0 = ap (λ l. choices s l (0 - l)) spare in
        record {
          digit = omega (arith, dp, dr, first, none, choose-one k, choose-zero s);
          counted = record {
            least = omega (arith, spare);
            most = omega (arith, size_after);
          };
          covered = λ t. t;
        }

-- the other man goes to the empty square
pub step_there : (p : Board) (man taken : Man) (a b : ℕ) → length p.cells ≡ 64 → a < 64 → b < 64 →
    a ≢ b → slice_index p.cells a ≡ cell_of_man man → slice_index p.cells b ≡ cell_of_man taken →
    IsStep (without p b) man a b
step_there p man taken a b size la lb n stood there = record {
  size = length-set p.cells b 0 ∙ size;
  from = la;
  to = lb;
  stood = at_others p taken b size lb there a n ∙ stood;
  free = at_taken p taken b size lb there;
}

same_test_twice : (t u : Bool) (v x : ℕ) → cond t v (cond u 0 (cond t 0 x)) ≡ cond t v (cond u 0 x)
same_test_twice true u v x = refl
same_test_twice false u v x = refl

-- that is the step onto the taken man
pub step_onto : (p : Board) (man : Man) (a b : ℕ) (target : Option ℕ) → length p.cells ≡ 64 →
    a < 64 → b < 64 → stepped (without p b) man a b target ≡ stepped p man a b target
step_onto p man a b target size la lb =
    let v = cell_of_man man in
    let long = length-set p.cells b 0 in
    let long_a = length-set p.cells a 0 in
    let long_ba = length-set (slice_set p.cells b 0) a 0 in
    let q = stepped p man a b target in
    let q2 = stepped (without p b) man a b target in
    let sizes : length q2.cells ≡ length q.cells =
    length-set (slice_set (slice_set p.cells b 0) a 0) b v ∙ long_ba ∙ long
    ∙ sym (length-set (slice_set p.cells a 0) b v ∙ long_a) in
    let cells : q2.cells ≡ q.cells = same_number_lists q2.cells q.cells sizes
    (λ s h.
    let x = slice_index p.cells s in
    set_at (slice_set (slice_set p.cells b 0) a 0) b v s
    (omega (arith, long, long_ba, size, lb))
    ∙ ap (λ y. cond (s == b) v y) (set_at (slice_set p.cells b 0) a 0 s
    (omega (arith, long, size, la))
    ∙ ap (λ y. cond (s == a) 0 y) (set_at p.cells b 0 s (omega (arith, size, lb))))
    ∙ same_test_twice (s == b) (s == a) v x
    ∙ sym (set_at (slice_set p.cells a 0) b v s (omega (arith, long_a, size, lb))
    ∙ ap (λ y. cond (s == b) v y) (set_at p.cells a 0 s (omega (arith, size, la))))) in
    ap (λ (xs : List ℕ). let y : Board = record { cells = xs; turn = q.turn; ep = target } in y)
    cells
