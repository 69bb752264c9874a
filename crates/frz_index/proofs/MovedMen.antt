-- The words of the squares that changed, and groups of which no man is in them.
use Rattle.std.proofs.Common.{◌≡◌, ◌≢◌, ℕ, ◌+◌, ◌-◌, ◌*◌, ◌<◌, ◌≤◌, true, false, not, ◌&&◌, Some, List, length, slice_index, slice_set, replicate, refl, ap, sym, ◌∙◌, arith, inl, inr, length-set, get_or-set_same, get_or-set_other}
use Rattle.std.specs.Prelude.{◌==◌}
use Rattle.std.specs.List.{slice_get}
use Rattle.std.proofs.lemmas.Bool.{and_parts, cases_eq, cases_lt, eqb-true, false_from_ne_true}
use Rattle.frz_board.specs.Boards.{Board}
use Rattle.frz_board.specs.Men.{cell_of_man, kind_of_number, number_of_kind}
use Rattle.frz_board.specs.declared.man.Kind.{Kind}
use Rattle.frz_fide.specs.Words.{HasNoneFrom, IsNext}
use Rattle.frz_squares.specs.SquareSets.{has_square, set_of}
use Rattle.frz_squares.proofs.Lemmas.{has-set_of, has-zero}
use Rattle.frz_sets.specs.Views.{GroupLine}
use Rattle.frz_index.proofs.Charting.{IsPut, kind_back, kind_numbers, put_keeps, put_there, state_low}
use Rattle.frz_index.proofs.Counting.{and_off}
use Rattle.frz_index.proofs.RoomForMen.{any_found}
use Rattle.std.proofs.lemmas.Option.{slice_get_within}
use Rattle.frz_index.specs.Beside.{AreMoved, DiffersOn, HasNoneOf}
use Rattle.frz_index.specs.Charts.{IsChart}
use Rattle.frz_index.specs.declared.chart.Chart.{Chart}

-- a square is in the word of those that changed where its cells differ
pub in_changed : (p q : Board) (squares s : ℕ) →
    squares ≡ set_of (λ s. not (slice_index p.cells s == slice_index q.cells s)) → s < 64 →
    DiffersOn p q s → has_square squares s ≡ true
in_changed p q squares s e low n =
    ap (λ w. has_square w s) e
    ∙ has-set_of (λ s. not (slice_index p.cells s == slice_index q.cells s)) s low
    ∙ ap not (false_from_ne_true (slice_index p.cells s == slice_index q.cells s)
    (λ t. n (eqb-true _ _ t)))

-- the square is in the word of the cell, and each word has what it had
pub record IsMore (ws vs : List ℕ) (cell s : ℕ) : Type 0 where
  pub size : length vs ≡ 13
  pub there : has_square (slice_index vs cell) s ≡ true
  pub kept : (k x : ℕ) → x < 64 → has_square (slice_index ws k) x ≡ true →
      has_square (slice_index vs k) x ≡ true

pub more : (ws : List ℕ) (cell s r : ℕ) → length ws ≡ 13 → cell < 13 → s < 64 →
    IsPut (slice_index ws cell) s r → IsMore ws (slice_set ws cell r) cell s
more ws cell s r size low on put =
    let here : slice_index (slice_set ws cell r) cell ≡ r =
    get_or-set_same ws cell r 0 (omega (arith, size, low)) in
    record {
      size = length-set ws cell r ∙ size;
      there = ap (λ w. has_square w s) here ∙ put_there (slice_index ws cell) s r put on;
      kept = λ k x l t.
          elim (cases_eq k cell) [
            | inl same ↦
                ap (λ w. has_square w x) (ap (slice_index (slice_set ws cell r)) same ∙ here)
                ∙ put_keeps (slice_index ws cell) s r x put l
                (ap (λ j. has_square (slice_index ws j) x) (sym same) ∙ t)
            | inr other ↦
                ap (λ w. has_square w x) (get_or-set_other ws cell k r 0 other) ∙ t
          ];
    }

-- the words of the squares below n that changed
pub record MovedBelow (p q : Board) (squares n : ℕ) (moved : List ℕ) : Type 0 where
  pub size : length moved ≡ 13
  pub before : (s : ℕ) → s < 64 → s < n → has_square squares s ≡ true →
      has_square (slice_index moved (slice_index p.cells s)) s ≡ true
  pub after : (s : ℕ) → s < 64 → s < n → has_square squares s ≡ true →
      has_square (slice_index moved (slice_index q.cells s)) s ≡ true

pub moved_start : (p q : Board) (squares : ℕ) → MovedBelow p q squares 0 (replicate 13 0)
moved_start p q squares = record {
  size = refl;
  before = λ s l m t. absurd (omega (arith, m));
  after = λ s l m t. absurd (omega (arith, m));
}

-- one more square
pub moved_step : (p q : Board) (squares n s : ℕ) (us vs ws : List ℕ) →
    MovedBelow p q squares n us → IsNext squares n s →
    IsMore us vs (slice_index p.cells s) s → IsMore vs ws (slice_index q.cells s) s →
    MovedBelow p q squares (s + 1) ws
moved_step p q squares n s us vs ws h next one two = record {
  size = two.size;
  before = λ x l m t.
      elim (cases_eq x s) [
        | inl here ↦
            two.kept (slice_index p.cells x) x l
            (ap (λ y. has_square (slice_index vs (slice_index p.cells y)) y) here ∙ one.there)
        | inr other ↦
            let early = early x m other t in
            two.kept (slice_index p.cells x) x l (one.kept (slice_index p.cells x) x l
            (h.before x l early t))
      ];
  after = λ x l m t.
      elim (cases_eq x s) [
        | inl here ↦
            ap (λ y. has_square (slice_index ws (slice_index q.cells y)) y) here ∙ two.there
        | inr other ↦
            let early = early x m other t in
            two.kept (slice_index q.cells x) x l (one.kept (slice_index q.cells x) x l
            (h.after x l early t))
      ];
}
  where
    early : (x : ℕ) → x < s + 1 → x ≢ s → has_square squares x ≡ true → x < n
    early x m other t =
        elim (cases_lt x n) [
          | inl less ↦ less
          | inr late ↦
              let none = next.first x late (omega (arith, m, other)) in
              absurd cc
        ]

-- all squares
pub moved_end : (p q : Board) (squares n : ℕ) (moved : List ℕ) →
    squares ≡ set_of (λ s. not (slice_index p.cells s == slice_index q.cells s)) →
    MovedBelow p q squares n moved → HasNoneFrom squares n → AreMoved p q moved
moved_end p q squares n moved e h none = record {
  size = h.size;
  before = λ s l d.
      let t = in_changed p q squares s e l d in h.before s l (early s l t) t;
  after = λ s l d.
      let t = in_changed p q squares s e l d in h.after s l (early s l t) t;
}
  where
    early : (s : ℕ) → s < 64 → has_square squares s ≡ true → s < n
    early s l t =
        elim (cases_lt s n) [
          | inl less ↦ less
          | inr late ↦ let off = none.none s late l in absurd cc
        ]

-- no state of the first kinds has its man in the words
abbrev pub NoneOfKinds : GroupLine → List ℕ → ℕ → Type 0
NoneOfKinds g moved i =
    (j : ℕ) (st : Kind × ℕ) → slice_get g.states j ≡ Some st → number_of_kind st.0 ≤ i →
    has_square (slice_index moved (cell_of_man (record { colour = g.colour; kind = st.0 }))) st.1
    ≡ false

-- no state is of a kind before the first
pub none_first : (g : GroupLine) (chart : Chart) (moved : List ℕ) → IsChart g.states chart →
    NoneOfKinds g moved chart.first
none_first g chart moved h j st e l =
    let low = state_low 0 g.states j st h.in_order.increasing e in
    let cut = h.cuts_are.cut (64 * chart.first)
    (let o = h.order in let k = h.kinds in omega arith) in
    let from = cut.from j st (omega (arith, h.none_before)) e in
    let some = (kind_numbers st.0).0 in
    absurd (omega (arith, from, low.1, some, l))

-- one more kind
pub none_step : (g : GroupLine) (chart : Chart) (moved : List ℕ) (i cell word : ℕ) (kind : Kind) →
    IsChart g.states chart → NoneOfKinds g moved i → kind ≡ kind_of_number (i + 1) →
    cell ≡ cell_of_man (record { colour = g.colour; kind = kind }) →
    ((s : ℕ) → s < 64 → has_square word s
    ≡ (has_square (slice_index moved cell) s && has_square (slice_index chart.words i) s)) →
    word ≡ 0 → NoneOfKinds g moved (i + 1)
none_step g chart moved i cell word kind h before ek ec both none j st e l =
    elim (cases_eq (number_of_kind st.0) (i + 1)) [
      | inr other ↦ before j st e (omega (arith, l, other))
      | inl last ↦
          let low = (state_low 0 g.states j st h.in_order.increasing e).1 in
          let same : st.0 ≡ kind = sym (kind_back st.0) ∙ ap kind_of_number last ∙ sym ek in
          let here : cell_of_man (record { colour = g.colour; kind = st.0 }) ≡ cell =
          ap (λ k. cell_of_man (record { colour = g.colour; kind = k })) same ∙ sym ec in
          let place : number_of_kind st.0 - 1 ≡ i = omega (arith, last) in
          let word_has : has_square (slice_index chart.words i) st.1 ≡ true =
          ap (λ x. has_square (slice_index chart.words x) st.1) (sym place)
          ∙ h.words_are.all j st e in
          let off : (has_square (slice_index moved cell) st.1
          && has_square (slice_index chart.words i) st.1) ≡ false = sym (both st.1 low)
          ∙ ap (λ w. has_square w st.1) none ∙ has-zero st.1 in
          ap (λ c. has_square (slice_index moved c) st.1) here
          ∙ and_off (has_square (slice_index moved cell) st.1)
          (has_square (slice_index chart.words i) st.1) off word_has
    ]

-- all kinds
pub none_end : (g : GroupLine) (chart : Chart) (moved : List ℕ) (i : ℕ) → IsChart g.states chart →
    chart.end ≤ i → NoneOfKinds g moved i → HasNoneOf g moved
none_end g chart moved i h end none cell s low on =
    let found = any_found (λ (state : Kind × ℕ). cell_of_man
    (record { colour = g.colour; kind = state.0 }) == cell && state.1 == s) g.states on in
    let st = found.1 in
    let man = cell_of_man (record { colour = g.colour; kind = st.0 }) in
    let parts = and_parts (man == cell) (st.1 == s) found.3 in
    let is : man ≡ cell = eqb-true man cell parts.0 in
    let here : st.1 ≡ s = eqb-true st.1 s parts.1 in
    let cut = h.cuts_are.cut (64 * chart.end) (let k = h.kinds in omega arith) in
    let within = slice_get_within g.states found.0 st found.2 in
    let below = cut.before found.0 st (omega (arith, within, h.none_after)) found.2 in
    let some = (kind_numbers st.0).0 in
    ap (λ c. has_square (slice_index moved c) s) (sym is)
    ∙ ap (has_square (slice_index moved man)) (sym here)
    ∙ none found.0 st found.2 (omega (arith, below, some, end))
