-- A man that stands in a position of the set has room where it
-- stands, once it is taken off the board.
use Rattle.std.proofs.Common.{◌≡◌, ◌≢◌, ℕ, filter, zero, suc, ◌+◌, ◌-◌, ◌<◌, ◌≤◌, Bool, true, false, ◌&&◌, ◌||◌, List, [], ◌∷◌, length, slice_index, Option, None, Some, refl, ap, sym, ◌∙◌, subst, arith, inl, inr}
use Rattle.frz_fide.proofs.Lemmas.{same_tests}
use Rattle.std.specs.Prelude.{◌==◌, nat_lt}
use Rattle.std.specs.List.{AllByRecursion, list_any, slice_get}
use Rattle.std.proofs.lemmas.Bool.{cases_Bool, cases_eq, eqb-true, eq-eqb, lt-ltb, ltb-true, and_parts, and_from, false_from_ne_true, or_left, or_right}
use Rattle.std.proofs.lemmas.List.Folds.{list_any_at}
use Rattle.std.proofs.lemmas.Option.{get_or_from_slice_get, same_Some, slice_get_within}
use Rattle.frz_board.specs.declared.man.Colour.{Colour}
use Rattle.frz_board.specs.declared.man.Kind.{Kind}
use Rattle.frz_board.specs.declared.man.Man.{Man}
use Rattle.frz_board.specs.Boards.{Board, has}
use Rattle.frz_board.specs.Men.{cell_of_man, kind_of_number, man_of_cell, number_of_kind}
use Rattle.frz_board.proofs.Lemmas.{cell_forth, cell-some}
use Rattle.frz_squares.proofs.Lemmas.{either_or}
use Rattle.frz_squares.specs.SquareSets.{has_square}
use Rattle.frz_combinations.specs.Combinations.{places_below}
use Rattle.frz_sets.specs.Sets.{has_state, is_state}
use Rattle.frz_sets.specs.Views.{GroupLine}
use Rattle.frz_index.specs.declared.chart.Chart.{Chart}
use Rattle.frz_index.specs.Charts.{IsChart}
use Rattle.frz_index.specs.Kept.{is_known, may_lack}
use Rattle.frz_index.specs.Members.{Member}
use Rattle.frz_index.specs.Places.{IsWithinCount, places, stands}
use Rattle.frz_index.specs.Room.{has_room, takes_one_more}
use Rattle.frz_index.proofs.Charting.{kind_back, kind_numbers}

-- an element that passes
pub any_at : {X : Type 0} (test : X → Bool) (xs : List X) (i : ℕ) (x : X) →
    slice_get xs i ≡ Some x → test x ≡ true → list_any test xs ≡ true
any_at test xs i x e h =
    list_any_at test xs i x (slice_get_within xs i x e)
    (ap test (get_or_from_slice_get xs i x x e) ∙ h)

pub any_found : {X : Type 0} (test : X → Bool) (xs : List X) → list_any test xs ≡ true →
    (i : ℕ) × (x : X) × (slice_get xs i ≡ Some x) × (test x ≡ true)
any_found test [] h = absurd (cc)
any_found test (y ∷ xs) h =
    elim (cases_Bool (test y)) [
      | inl e ↦ (zero, y, refl, e)
      | inr e ↦
          let rest = any_found test xs (sym (ap (λ b. b || list_any test xs) e) ∙ h) in
          (suc rest.0, rest.1, rest.2, rest.3)
    ]

-- the same cell is the same man
pub same_man : (m n : Man) → cell_of_man m ≡ cell_of_man n → m ≡ n
same_man m n e =
    same_Some m n (sym (cell_forth m.colour m.kind) ∙ ap man_of_cell e ∙ cell_forth n.colour n.kind)

abbrev pub is_at : Colour → Man → ℕ → Kind × ℕ → Bool
is_at c man s state =
    cell_of_man (record { colour = c; kind = state.0 }) == cell_of_man man && state.1 == s

pub at_parts : (c : Colour) (man : Man) (s : ℕ) (state : Kind × ℕ) → is_at c man s state ≡ true →
    (c ≡ man.colour) × (state.0 ≡ man.kind) × (state.1 ≡ s)
at_parts c man s state h =
    let parts = and_parts (cell_of_man (record { colour = c; kind = state.0 }) == cell_of_man man)
    (state.1 == s) h in
    let same = same_man (record { colour = c; kind = state.0 }) man
    (eqb-true (cell_of_man (record { colour = c; kind = state.0 })) (cell_of_man man)
    parts.0) in
    (ap (λ (m : Man). m.colour) same, ap (λ (m : Man). m.kind) same, eqb-true state.1 s parts.1)

pub at_itself : (man : Man) (s : ℕ) (kind : Kind) → kind ≡ man.kind →
    is_at man.colour man s (kind, s) ≡ true
at_itself man s kind e =
    and_from _ _ (eq-eqb (cell_of_man (record { colour = man.colour; kind = kind }))
    (cell_of_man man) (ap (λ k. cell_of_man (record { colour = man.colour; kind = k })) e))
    (eq-eqb s s refl)

-- the chart's word of a kind has the squares of the states
pub state_word : (states : List (Kind × ℕ)) (chart : Chart) → IsChart states chart →
    (man : Man) (s : ℕ) → s < 64 →
    list_any (is_at man.colour man s) states ≡ has_square
    (slice_index chart.words (number_of_kind man.kind - 1)) s
state_word states chart h man s low =
    let word = has_square (slice_index chart.words (number_of_kind man.kind - 1)) s in
    let numbers = kind_numbers man.kind in
    same_tests (list_any (is_at man.colour man s) states) word
    (λ e.
    let found = any_found (is_at man.colour man s) states e in
    let parts = at_parts man.colour man s found.1 found.3 in
    ap (λ k. has_square (slice_index chart.words (number_of_kind k - 1)) s) (sym parts.1)
    ∙ ap (has_square (slice_index chart.words (number_of_kind found.1.0 - 1))) (sym parts.2)
    ∙ h.words_are.all found.0 found.1 found.2)
    (λ e.
    let only = h.words_are.only (number_of_kind man.kind - 1) s
    (omega (arith, numbers.0, numbers.1)) low e in
    let number : number_of_kind man.kind - 1 + 1 ≡ number_of_kind man.kind = omega
    (arith, numbers.0) in
    any_at (is_at man.colour man s) states only.0
    (kind_of_number (number_of_kind man.kind - 1 + 1), s) only.1
    (at_itself man s (kind_of_number (number_of_kind man.kind - 1 + 1))
    (ap kind_of_number number ∙ kind_back man.kind)))

-- a group of the other side has no state of the man
pub no_state : (g : GroupLine) (man : Man) (s : ℕ) → (g.colour ≡ man.colour → ⊥) →
    is_state (cell_of_man man) s g ≡ false
no_state g man s other =
    false_from_ne_true (is_state (cell_of_man man) s g)
    (λ e. let found = any_found (is_at g.colour man s) g.states e in
    other (at_parts g.colour man s found.1 found.3).0)

pub own_state : (g : GroupLine) (chart : Chart) → IsChart g.states chart → (man : Man) (s : ℕ) →
    s < 64 → g.colour ≡ man.colour →
    is_state (cell_of_man man) s g ≡ has_square
    (slice_index chart.words (number_of_kind man.kind - 1)) s
own_state g chart h man s low own =
    ap (λ c. list_any (is_at c man s) g.states) own ∙ state_word g.states chart h man s low

-- fewer places where one that passed passes no more
places_le : (f h : ℕ → Bool) (n : ℕ) → ((k : ℕ) → k < n → f k ≡ true → h k ≡ true) →
    length (places_below f n) ≤ length (places_below h n)
places_le f h zero more = omega arith
places_le f h (suc n) more =
    let rest = places_le f h n (λ k l. more k (omega arith)) in
    elim (cases_Bool (f n)) [
      | inl e ↦ rw (e, more n (omega arith) e) (omega (arith, rest))
      | inr e ↦ elim (cases_Bool (h n)) [
        | inl i ↦ rw (e, i) (omega (arith, rest))
        | inr i ↦ rw (e, i) rest
      ]
    ]

places_lt : (f h : ℕ → Bool) (n j : ℕ) → ((k : ℕ) → k < n → f k ≡ true → h k ≡ true) → j < n →
    f j ≡ false → h j ≡ true → length (places_below f n) < length (places_below h n)
places_lt f h zero j more l off on = absurd (omega (arith, l))
places_lt f h (suc n) j more l off on =
    elim (cases_eq j n) [
      | inl same ↦
          let rest = places_le f h n (λ k l. more k (omega arith)) in
          let gone : f n ≡ false = ap f (sym same) ∙ off in
          let here : h n ≡ true = ap h (sym same) ∙ on in
          rw (gone, here) (omega (arith, rest))
      | inr other ↦
          let rest = places_lt f h n j (λ k l. more k (omega arith)) (omega (arith, l, other)) off
          on in
          elim (cases_Bool (f n)) [
            | inl e ↦ rw (e, more n (omega arith) e) (omega (arith, rest))
            | inr e ↦ elim (cases_Bool (h n)) [
              | inl i ↦ rw (e, i) (omega (arith, rest))
              | inr i ↦ rw (e, i) rest
            ]
          ]
    ]

pub counted_at : (P : GroupLine → Type 0) (gs : List GroupLine) (i : ℕ) (g : GroupLine) →
    AllByRecursion P gs → slice_get gs i ≡ Some g → P g
counted_at P [] i g all e = absurd (cc)
counted_at P (x ∷ gs) zero g all e = subst P (same_Some x g e) all.0
counted_at P (x ∷ gs) (suc i) g all e = counted_at P gs i g all.1 e

some_cell : (c : Colour) (k : Kind) → cell_of_man (record { colour = c; kind = k }) ≢ 0
some_cell c k = λ e. omega (arith, e, cell-some c k)

-- r is p without the man of p on the square, as far as the man's side goes
pub record LeavesOut (p r : Board) (man : Man) (s : ℕ) : Type 0 where
  pub stood : slice_index p.cells s ≡ cell_of_man man
  pub gone : (k : Kind) → has r man.colour k s ≡ false
  pub others : (k : Kind) (x : ℕ) → x ≢ s → has r man.colour k x ≡ true →
      has p man.colour k x ≡ true

module _ (p r : Board) (man : Man) (s : ℕ) (h : LeavesOut p r man s) (g : GroupLine)
    (own : g.colour ≡ man.colour) where
  gone_of : (k : Kind) (x : ℕ) → x ≡ s → has r g.colour k x ≡ false
  gone_of k x e = ap (λ c. has r c k x) own ∙ ap (has r man.colour k) e ∙ h.gone k

  stands_of : (o : Option (Kind × ℕ)) → stands r g.colour o ≡ true → stands p g.colour o ≡ true
  stands_of None e = e
  stands_of (Some state) e =
      elim (cases_eq state.1 s) [
        | inl same ↦ let off = gone_of state.0 state.1 same in absurd (cc)
        | inr other ↦
            ap (λ c. has p c state.0 state.1) own
            ∙ h.others state.0 state.1 other (ap (λ c. has r c state.0 state.1) (sym own) ∙ e)
      ]

  pub fewer : (j : ℕ) (state : Kind × ℕ) → slice_get g.states j ≡ Some state → state.0 ≡ man.kind →
      state.1 ≡ s → length (places r g) < length (places p g)
  fewer j state e kind at =
      places_lt (λ k. stands r g.colour (slice_get g.states k))
      (λ k. stands p g.colour (slice_get g.states k)) (length g.states) j
      (λ k l f. stands_of (slice_get g.states k) f)
      (slice_get_within g.states j state e)
      (ap (stands r g.colour) e ∙ gone_of state.0 state.1 at)
      (ap (stands p g.colour) e
      ∙ eq-eqb (slice_index p.cells state.1)
      (cell_of_man (record { colour = g.colour; kind = state.0 }))
      (ap (slice_index p.cells) at ∙ h.stood
      ∙ ap (λ c. cell_of_man (record { colour = c; kind = man.kind })) (sym own)
      ∙ ap (λ k. cell_of_man (record { colour = g.colour; kind = k })) (sym kind)))

-- where a man of a position of the set stands there is room for it once it is left out
pub room_where : (gs : List GroupLine) (p r : Board) (man : Man) (s : ℕ) → Member gs p → s < 64 →
    LeavesOut p r man s → has_room gs r man s ≡ true
room_where gs p r man s m low h =
    let some : slice_index p.cells s ≢ 0 = λ e. some_cell man.colour man.kind (sym h.stood ∙ e) in
    let covered : has_state gs (cell_of_man man) s ≡ true = ap (λ x. has_state gs x s) (sym h.stood)
    ∙ m.men s low some in
    let group = any_found (is_state (cell_of_man man) s) gs covered in
    let g = group.1 in
    let state = any_found (is_at g.colour man s) g.states group.3 in
    let parts = at_parts g.colour man s state.1 state.3 in
    let less = fewer p r man s h g parts.0 state.0 state.1 state.2 parts.1 parts.2 in
    let counted = counted_at (IsWithinCount p) gs group.0 g m.counts group.2 in
    let most = counted.most in
    let room : nat_lt (length (places r g)) g.most ≡ true =
    (let below : length (places r g) < g.most = omega (arith, less, most) in
    lt-ltb (length (places r g)) g.most below) in
    any_at (takes_one_more r man s) gs group.0 g group.2
    (and_from (is_state (cell_of_man man) s g) (nat_lt (length (places r g)) g.most) group.3 room)

-- no room where the set does not know the man
pub room_unknown : (gs : List GroupLine) (r : Board) (man : Man) (s : ℕ) →
    is_known gs (cell_of_man man) s ≡ false → has_room gs r man s ≡ false
room_unknown gs r man s h =
    false_from_ne_true (has_room gs r man s)
    (λ e.
    let found = any_found (takes_one_more r man s) gs e in
    let state = (and_parts (is_state (cell_of_man man) s found.1)
    (nat_lt (length (places r found.1)) found.1.most) found.3).0 in
    let covered = any_at (is_state (cell_of_man man) s) gs found.0 found.1 found.2 state in
    let known = either_or (cell_of_man man == 0) (has_state gs (cell_of_man man) s) (inr covered) in
    cc)

-- an element that is kept passes
any_kept : {X : Type 0} (keep test : X → Bool) (xs : List X) (i : ℕ) (x : X) →
    slice_get xs i ≡ Some x → keep x ≡ true → test x ≡ true → list_any test (filter keep xs) ≡ true
any_kept keep test [] i x e k t = absurd (cc)
any_kept keep test (y ∷ xs) zero x e k t =
    let same : y ≡ x = same_Some y x e in
    let kept : keep y ≡ true = ap keep same ∙ k in
    let passes : test y ≡ true = ap test same ∙ t in
    rw kept (or_left (test y) (list_any test (filter keep xs)) passes)
any_kept keep test (y ∷ xs) (suc i) x e k t =
    let rest = any_kept keep test xs i x e k t in
    elim (cases_Bool (keep y)) [
      | inl kept ↦ rw kept (or_right (test y) (list_any test (filter keep xs)) rest)
      | inr left ↦ rw left rest
    ]

-- no room where only groups know the man that have all their men in each position
pub room_filled : (gs : List GroupLine) (p : Board) (man : Man) (s : ℕ) → Member gs p →
    is_known (filter may_lack gs) (cell_of_man man) s ≡ false → has_room gs p man s ≡ false
room_filled gs p man s member h =
    false_from_ne_true (has_room gs p man s)
    (λ e.
    let found = any_found (takes_one_more p man s) gs e in
    let g = found.1 in
    let parts = and_parts (is_state (cell_of_man man) s g) (nat_lt (length (places p g)) g.most)
    found.3 in
    let least = (counted_at (IsWithinCount p) gs found.0 g member.counts found.2).least in
    let below = ltb-true (length (places p g)) g.most parts.1 in
    let lacks : may_lack g ≡ true = lt-ltb g.least g.most (omega (arith, least, below)) in
    let covered = any_kept may_lack (is_state (cell_of_man man) s) gs found.0 g found.2 lacks
    parts.0 in
    let known = either_or (cell_of_man man == 0)
    (has_state (filter may_lack gs) (cell_of_man man) s) (inr covered) in
    cc)
