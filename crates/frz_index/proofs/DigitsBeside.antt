-- The digits beside those of a position of the set, group by group.
use Rattle.std.proofs.Common.{◌≡◌, ℕ, suc, ◌+◌, ◌*◌, ◌<◌, ◌≤◌, true, false, not, ◌&&◌, ◌||◌, Option, None, Some, List, get_or, length, slice_index, take, refl, ap, sym, ◌∙◌, subst, arith, add-one, bit_or, inl, inr}
use Rattle.std.specs.Prelude.{◌==◌}
use Rattle.std.specs.List.{AllByRecursion, slice_get}
use Rattle.std.proofs.Math.Seq.{take_all}
use Rattle.std.proofs.lemmas.Bool.{cases_eq, eq-eqb, eqb-true, false_from_ne_true}
use Rattle.std.proofs.lemmas.List.Folds.{list_any_more}
use Rattle.std.proofs.lemmas.Nat.{mul-le}
use Rattle.frz_board.specs.Boards.{Board, is_empty}
use Rattle.frz_board.specs.Men.{cell_of_man}
use Rattle.frz_board.specs.declared.man.Kind.{Kind}
use Rattle.frz_combinations.specs.Selections.{digit}
use Rattle.frz_fide.specs.Valid.{IsValid}
use Rattle.frz_sets.specs.Sets.{has_state, is_state, radix_of}
use Rattle.frz_sets.specs.Sound.{AreStates}
use Rattle.frz_sets.specs.Views.{GroupLine}
use Rattle.frz_squares.specs.SquareSets.{has_square, set_of}
use Rattle.frz_squares.proofs.Lemmas.{empty_set, has-or, has-set_of, has-zero}
use Rattle.frz_index.proofs.Charting.{state_low}
use Rattle.frz_index.proofs.Covering.{none_left, not_left}
use Rattle.frz_index.proofs.GroupSteps.{At, counted_below, drop_end, product_le, whole_fits}
use Rattle.frz_index.proofs.MovedMen.{in_changed}
use Rattle.frz_index.proofs.NumbersAfterSteps.{Shifted, shifted_step, sums}
use Rattle.frz_index.proofs.OwnSquares.{stands_state}
use Rattle.frz_index.proofs.Partners.{same_below}
use Rattle.frz_index.proofs.Stepping.{Shifts}
use Rattle.frz_index.specs.Beside.{AreChanges, AreMoved, DiffersOn, HasNoneOf, IsChange}
use Rattle.frz_index.specs.Kept.{AreNumberable, product_from}
use Rattle.frz_index.specs.Members.{Member}
use Rattle.frz_index.specs.Places.{IsWithinCount, digit_of, places, stands}
use Rattle.frz_index.specs.declared.beside.Change.{Change}
use Rattle.frz_index.specs.declared.beside.Changes.{Changes}

-- a group of which no man has moved
module _ (p q : Board) (moved : List ℕ) (g : GroupLine) (h : AreMoved p q moved)
    (in_order : AreStates g.states) (none : HasNoneOf g moved) where
  no_state_before : (s : ℕ) → s < 64 → DiffersOn p q s →
      is_state (slice_index p.cells s) s g ≡ false
  no_state_before s l d =
      false_from_ne_true (is_state (slice_index p.cells s) s g)
      (λ t. let off = none (slice_index p.cells s) s l t in let on = h.before s l d in absurd cc)

  no_state_after : (s : ℕ) → s < 64 → DiffersOn p q s →
      is_state (slice_index q.cells s) s g ≡ false
  no_state_after s l d =
      false_from_ne_true (is_state (slice_index q.cells s) s g)
      (λ t. let off = none (slice_index q.cells s) s l t in let on = h.after s l d in absurd cc)

  -- a man of no state stands at no place
  no_stand : (b : Board) (j : ℕ) (st : Kind × ℕ) → slice_get g.states j ≡ Some st →
      is_state (slice_index b.cells st.1) st.1 g ≡ false → stands b g.colour (Some st) ≡ false
  no_stand b j st e off =
      false_from_ne_true (stands b g.colour (Some st))
      (λ t. let on = stands_state b g j st e (eqb-true (slice_index b.cells st.1)
      (cell_of_man (record { colour = g.colour; kind = st.0 })) t) in absurd cc)

  same_stand : (j : ℕ) (o : Option (Kind × ℕ)) → slice_get g.states j ≡ o →
      stands q g.colour o ≡ stands p g.colour o
  same_stand j None e = refl
  same_stand j (Some st) e =
      let low = (state_low 0 g.states j st in_order.increasing e).1 in
      elim (cases_eq (slice_index p.cells st.1) (slice_index q.cells st.1)) [
        | inl same ↦
            ap (λ x. x == cell_of_man (record { colour = g.colour; kind = st.0 })) (sym same)
        | inr other ↦
            no_stand q j st e (no_state_after st.1 low other)
            ∙ sym (no_stand p j st e (no_state_before st.1 low other))
      ]

  same_places : places q g ≡ places p g
  same_places =
      same_below (λ k. stands q g.colour (slice_get g.states k))
      (λ k. stands p g.colour (slice_get g.states k))
      (λ k. same_stand k (slice_get g.states k) refl) (length g.states)

  pub unchanged : IsWithinCount p g → (x : Change) → x.before ≡ 0 → x.after ≡ 0 → x.squares ≡ 0 →
      IsChange p q g x
  unchanged w x eb ea es =
      let same = sym (ap length same_places) in
      let digits : digit_of q g ≡ digit_of p g = ap (digit (length g.states) g.least) same_places in
      record {
        counted = record {
          least = subst (λ n. g.least ≤ n) same w.least;
          most = subst (λ n. n ≤ g.most) same w.most;
        };
        digit = omega (arith, digits, eb, ea);
        some_before = omega (arith, eb);
        some_after = omega (arith, ea);
        squares = λ s l d.
            ap (λ w. has_square w s) es ∙ has-zero s ∙ sym (no_state_after s l d);
      }

-- one group more
pub changed_on : (p q : Board) (gs : List GroupLine) (i before after : ℕ) (g : GroupLine)
    (x : Change) → slice_get gs i ≡ Some g → Shifted gs p q 0 0 0 i after before →
    IsChange p q g x → (w : ℕ) → w ≡ product_from gs (suc i) →
    Shifted gs p q 0 0 0 (i + 1) (after + x.after * w) (before + x.before * w)
changed_on p q gs i before after g x here h one w ew =
    let shifts : Shifts p q 0 0 0 g x.after x.before =
    record { digit = one.digit; counted = one.counted; covered = λ t. t } in
    subst (λ n. Shifted gs p q 0 0 0 n (after + x.after * w) (before + x.before * w))
    (sym (add-one i))
    (subst (λ v. Shifted gs p q 0 0 0 (suc i) (after + x.after * v) (before + x.before * v))
    (sym ew) (shifted_step gs p q 0 0 0 i after before x.after x.before g here h shifts))

pub radix_fits : (gs : List GroupLine) (i : ℕ) (g : GroupLine) (w : ℕ) → AreNumberable gs →
    At gs i g w → radix_of g ≤ 134217728
radix_fits gs i g w s a =
    omega (
      arith,
      mul-le (radix_of g) 1 (radix_of g) w (omega arith) (omega (arith, a.some)),
      a.part,
      product_le gs s.groups i,
      whole_fits gs s,
    )

-- what a digit adds fits
pub digit_adds : (p : Board) (gs : List GroupLine) (i d : ℕ) (g : GroupLine) (w : ℕ) →
    AreNumberable gs → At gs i g w → IsWithinCount p g → d ≤ digit_of p g → d * w ≤ 134217728
digit_adds p gs i d g w s a h l =
    omega (
      arith,
      mul-le d w (radix_of g) w (omega (arith, counted_below p g h, l)) (omega arith),
      a.part,
      product_le gs s.groups i,
      whole_fits gs s,
    )

-- of the squares that changed, those on which a man of these groups stands after
abbrev pub AreCoveredAfter : Board → Board → List GroupLine → ℕ → Type 0
AreCoveredAfter p q gs squares =
    (s : ℕ) → s < 64 → DiffersOn p q s →
    has_square squares s ≡ has_state gs (slice_index q.cells s) s

pub after_none : (p q : Board) (gs : List GroupLine) → AreCoveredAfter p q (take 0 gs) 0
after_none p q gs s l d = has-zero s

pub after_on : (p q : Board) (gs : List GroupLine) (i : ℕ) (g : GroupLine) (x : Change)
    (squares : ℕ) → i < length gs → g ≡ get_or gs i g → AreCoveredAfter p q (take i gs) squares →
    IsChange p q g x → AreCoveredAfter p q (take (i + 1) gs) (bit_or squares x.squares)
after_on p q gs i g x squares l e h one s low d =
    has-or squares x.squares s
    ∙ ap (λ b. b || has_square x.squares s) (h s low d)
    ∙ ap (λ b. has_state (take i gs) (slice_index q.cells s) s || b)
    (one.squares s low d ∙ ap (is_state (slice_index q.cells s) s) e)
    ∙ sym (list_any_more (is_state (slice_index q.cells s) s) gs i g l)

pub after_all : (p q : Board) (gs : List GroupLine) (i squares : ℕ) → length gs ≤ i →
    AreCoveredAfter p q (take i gs) squares → AreCoveredAfter p q gs squares
after_all p q gs i squares l h =
    subst (λ (xs : List GroupLine). AreCoveredAfter p q xs squares) (take_all i gs l) h

-- all groups
pub changes_are : (p q : Board) (gs : List GroupLine) (i : ℕ) (x : Changes) → length gs ≤ i →
    i ≤ length gs → Shifted gs p q 0 0 0 i x.after x.before → x.after ≤ i * 134217728 →
    AreCoveredAfter p q (take i gs) x.squares → AreChanges p q gs x
changes_are p q gs i x l k h small squares =
    let e : i ≡ length gs = omega arith in
    let all = subst (λ n. Shifted gs p q 0 0 0 n x.after x.before) e h in
    record {
      counted = all.counted (subst (AllByRecursion (IsWithinCount q))
          (sym (drop_end gs (length gs) (omega arith))) tt);
      sum = sums gs p q 0 0 0 x.after x.before all;
      small = omega (arith, small, e, ap (λ n. n * 134217728) e);
      squares = after_all p q gs i x.squares l squares;
    }

-- the men on squares that changed and that no group has
module _ (gs : List GroupLine) (p q : Board) (x : Changes) (squares occupied some left : ℕ)
    (h : AreChanges p q gs x)
    (changed_is : squares ≡ set_of (λ s. not (slice_index p.cells s == slice_index q.cells s)))
    (occupied_is : occupied ≡ set_of (λ s. not (is_empty q s)))
    (some_is : (s : ℕ) → s < 64 →
    has_square some s ≡ (has_square squares s && has_square occupied s))
    (left_is : (s : ℕ) → s < 64 →
    has_square left s ≡ (has_square some s && not (has_square x.squares s)))
  where
    left_on : (s : ℕ) → s < 64 → DiffersOn p q s →
        has_square left s ≡ (not (is_empty q s) && not (has_state gs (slice_index q.cells s) s))
    left_on s l d =
        left_is s l
        ∙ ap (λ b. b && not (has_square x.squares s))
        (some_is s l
        ∙ ap (λ b. b && has_square occupied s) (in_changed p q squares s changed_is l d)
        ∙ ap (λ w. has_square w s) occupied_is ∙ has-set_of (λ s. not (is_empty q s)) s l)
        ∙ ap (λ b. not (is_empty q s) && not b) (h.squares s l d)

    -- where none is left the position is in the set
    pub inside : Member gs p → IsValid q → left ≡ 0 → Member gs q
    inside m v none = record {
      valid = v;
      men = λ s l some.
          elim (cases_eq (slice_index p.cells s) (slice_index q.cells s)) [
            | inl same ↦
                ap (λ c. has_state gs c s) (sym same) ∙ m.men s l (λ zero. some (sym same ∙ zero))
            | inr other ↦
                let man : is_empty q s ≡ false = false_from_ne_true (is_empty q s)
                (λ t. some (eqb-true (slice_index q.cells s) 0 t)) in
                none_left (is_empty q s) (has_state gs (slice_index q.cells s) s)
                (sym (left_on s l other) ∙ ap (λ w. has_square w s) none ∙ has-zero s) man
          ];
      counts = h.counted;
    }

    -- in a position of the set none is left
    pub none_outside : left < 18446744073709551616 → Member gs q → left ≡ 0
    none_outside small m =
        empty_set left small
        (λ s l. elim (cases_eq (slice_index p.cells s) (slice_index q.cells s)) [
          | inl same ↦
              left_is s l
              ∙ ap (λ b. b && not (has_square x.squares s))
              (some_is s l ∙ ap (λ b. b && has_square occupied s)
              (ap (λ w. has_square w s) changed_is
              ∙ has-set_of (λ s. not (slice_index p.cells s == slice_index q.cells s)) s l
              ∙ ap not (eq-eqb (slice_index p.cells s) (slice_index q.cells s) same)))
          | inr other ↦
              left_on s l other
              ∙ not_left (is_empty q s) (has_state gs (slice_index q.cells s) s)
              (λ e. m.men s l (λ zero.
              let test : is_empty q s ≡ true = eq-eqb (slice_index q.cells s) 0 zero in cc))
        ])
