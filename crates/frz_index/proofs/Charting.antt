-- The states of a group in order: how many have a number below each.
use Rattle.std.proofs.Common.{◌≡◌, ◌≢◌, ℕ, zero, suc, ◌+◌, ◌-◌, ◌<◌, ◌≤◌, true, false, List, [], ◌∷◌, ◌++◌, drop, length, length-append, get_or, slice_index, slice_set, replicate, cond, ◌⊎◌, Some, refl, ap, sym, ◌∙◌, subst, arith, inl, inr, length-set, get_or-set_same, get_or-set_other}
use Rattle.std.specs.List.{AllByRecursion, slice_get}
use Rattle.std.proofs.lemmas.Option.{same_Some, none-some, slice_get_within, slice_get-get_or, slice_get_read}
use Rattle.std.proofs.lemmas.Bool.{cases_lt, cases_eq, eq-eqb}
use Rattle.std.proofs.lemmas.Bool.Decides.{nat_tests}
use Rattle.std.proofs.lemmas.List.{get_or-replicate}
use Rattle.std.proofs.Math.ListN.{get_or-eq_default}
use Rattle.std.specs.Prelude.{◌==◌}
use Rattle.frz_squares.specs.SquareSets.{has_square}
use Rattle.frz_squares.proofs.Lemmas.{has-zero}
use Rattle.frz_board.specs.declared.man.Kind.{Kind}
use Rattle.frz_board.specs.declared.man.Kind.TheVariants.{King, Queen, Rook, Bishop, Knight, Pawn}
use Rattle.frz_board.specs.Men.{kind_of_number, number_of_kind}
use Rattle.frz_sets.specs.Groups.{state_number}
use Rattle.frz_sets.specs.Sound.{AreIncreasingFrom, AreStates}
use Rattle.frz_index.specs.Charts.{AreCharts, AreWords, IsChart, IsCut}
use Rattle.frz_index.specs.declared.chart.Chart.{Chart}
use Rattle.frz_index.proofs.GroupSteps.{all_drop, drop_read}
use Rattle.frz_sets.specs.Views.{GroupLine}

pub pair_is : (s : Kind × ℕ) (k : Kind) (q : ℕ) → s.0 ≡ k → s.1 ≡ q → s ≡ (k, q)
pair_is s k q e f =
    let first : s ≡ (k, s.1) = ap (λ (x : Kind). let y : Kind × ℕ = (x, s.1) in y) e in
    first ∙ ap (λ (x : ℕ). let y : Kind × ℕ = (k, x) in y) f

pub kind_numbers : (k : Kind) → (1 ≤ number_of_kind k) × (number_of_kind k ≤ 6)
kind_numbers King = (omega arith, omega arith)
kind_numbers Queen = (omega arith, omega arith)
kind_numbers Rook = (omega arith, omega arith)
kind_numbers Bishop = (omega arith, omega arith)
kind_numbers Knight = (omega arith, omega arith)
kind_numbers Pawn = (omega arith, omega arith)

pub kind_back : (k : Kind) → kind_of_number (number_of_kind k) ≡ k
kind_back King = refl
kind_back Queen = refl
kind_back Rook = refl
kind_back Bishop = refl
kind_back Knight = refl
kind_back Pawn = refl

-- a state is not below the first number, and its square is on the board
pub state_low : (n : ℕ) (states : List (Kind × ℕ)) (i : ℕ) (s : Kind × ℕ) →
    AreIncreasingFrom n states → slice_get states i ≡ Some s → (n ≤ state_number s) × (s.1 < 64)
state_low n [] i s h e = absurd (none-some s e)
state_low n (t ∷ states) zero s h e =
    let same : t ≡ s = same_Some t s e in
    subst (λ (x : Kind × ℕ). (n ≤ state_number x) × (x.1 < 64)) same (h.0, h.1)
state_low n (t ∷ states) (suc i) s h e =
    let r = state_low (state_number t + 1) states i s h.2 e in
    (let a = h.0 in let b = r.0 in omega arith, r.1)

-- a later state has a greater number
pub state_order : (n : ℕ) (states : List (Kind × ℕ)) (i j : ℕ) (s t : Kind × ℕ) →
    AreIncreasingFrom n states → i < j → slice_get states i ≡ Some s → slice_get states j ≡ Some t →
    state_number s < state_number t
state_order n [] i j s t h l e f = absurd (none-some s e)
state_order n (u ∷ states) i zero s t h l e f = absurd (omega arith)
state_order n (u ∷ states) zero (suc j) s t h l e f =
    let r = (state_low (state_number u + 1) states j t h.2 f).0 in
    subst (λ (x : Kind × ℕ). state_number x < state_number t) (same_Some u s e) (omega (arith, r))
state_order n (u ∷ states) (suc i) (suc j) s t h l e f =
    state_order (state_number u + 1) states i j s t h.2 (omega arith) e f

pub some_at : (states : List (Kind × ℕ)) (k : ℕ) → k < length states →
    (s : Kind × ℕ) × (slice_get states k ≡ Some s)
some_at states k h = (get_or states k (King, 0), slice_get-get_or states k (King, 0) h)

-- no state is before 0
pub cut_first : (states : List (Kind × ℕ)) → IsCut states 0 0
cut_first states =
    record {
      within = omega arith;
      before = λ j s l e. absurd (omega arith);
      from = λ j s l e. omega arith;
    }

-- the state at the place k has the number x: k + 1 states have a number below x + 1
pub cut_here : (states : List (Kind × ℕ)) (x k : ℕ) (s : Kind × ℕ) → AreStates states →
    IsCut states x k → slice_get states k ≡ Some s → state_number s ≡ x →
    IsCut states (x + 1) (k + 1)
cut_here states x k s a h e is = record {
  within = omega (arith, slice_get_within states k s e);
  before = λ j t l f.
      elim (cases_lt j k) [
        | inl less ↦ omega (arith, h.before j t less f)
        | inr more ↦
            let here : j ≡ k = omega arith in
            let same : s ≡ t = same_Some s t (sym e ∙ ap (slice_get states) (sym here) ∙ f) in
            omega (arith, is, ap state_number same)
      ];
  from = λ j t l f. omega (arith, is, state_order 0 states k j s t a.increasing (omega arith) e f);
}

-- the state at the place k has another number, or there is none: k states have one below x + 1
pub cut_past : (states : List (Kind × ℕ)) (x k : ℕ) → AreStates states → IsCut states x k →
    ((s : Kind × ℕ) → slice_get states k ≡ Some s → state_number s ≢ x) → IsCut states (x + 1) k
cut_past states x k a h other = record {
  within = h.within;
  before = λ j t l f. omega (arith, h.before j t l f);
  from = λ j t l f.
      elim (cases_eq j k) [
        | inl here ↦
            let g = h.from j t l f in
            let o : state_number t ≢ x = other t (ap (slice_get states) (sym here) ∙ f) in
            omega arith
        | inr after ↦
            let found = some_at states k (omega (arith, slice_get_within states j t f)) in
            omega (
              arith,
              h.from k found.0 (omega arith) found.1,
              state_order 0 states k j found.0 t a.increasing (omega arith) found.1 f,
            )
      ];
}

-- a smaller number has no later place
pub cut_order : (states : List (Kind × ℕ)) (x y k m : ℕ) → x ≤ y → IsCut states x k →
    IsCut states y m → k ≤ m
cut_order states x y k m l h g =
    elim (cases_lt m k) [
      | inl less ↦
          let found = some_at states m (omega (arith, h.within)) in
          absurd (omega (
            arith,
            h.before m found.0 less found.1,
            g.from m found.0 (omega arith) found.1,
          ))
      | inr more ↦ more
    ]

-- IsCut holds of one k alone
pub cut_once : (states : List (Kind × ℕ)) (x k m : ℕ) → IsCut states x k → IsCut states x m → k ≡ m
cut_once states x k m h g =
    omega (
      arith,
      cut_order states x x k m (omega arith) h g,
      cut_order states x x m k (omega arith) g h,
    )

-- where a state has the number, it stands at the place
pub cut_at : (states : List (Kind × ℕ)) (x k j : ℕ) (s : Kind × ℕ) → AreStates states →
    IsCut states x k → slice_get states j ≡ Some s → state_number s ≡ x → j ≡ k
cut_at states x k j s a h e is =
    elim (cases_lt j k) [
      | inl less ↦ absurd (omega (arith, is, h.before j s less e))
      | inr more ↦ elim (cases_eq j k) [
        | inl here ↦ here
        | inr after ↦
            let found = some_at states k (omega (arith, slice_get_within states j s e)) in
            absurd (omega (
              arith,
              is,
              h.from k found.0 (omega arith) found.1,
              state_order 0 states k j found.0 s a.increasing (omega arith) found.1 e,
            ))
      ]
    ]

-- all states are below 384
pub cut_all : (states : List (Kind × ℕ)) (k : ℕ) → AreStates states → IsCut states 384 k →
    k ≡ length states
cut_all states k a h =
    elim (cases_lt k (length states)) [
      | inl less ↦
          let found = some_at states k less in
          absurd (omega (
            arith,
            h.from k found.0 (omega arith) found.1,
            (state_low 0 states k found.0 a.increasing found.1).1,
            (kind_numbers found.0.0).1,
          ))
      | inr more ↦ omega (arith, h.within)
    ]

-- the words of the first k states
pub record Words (states : List (Kind × ℕ)) (k : ℕ) (words : List ℕ) : Type 0 where
  pub size : length words ≡ 6
  pub only : (i s : ℕ) → i < 6 → s < 64 → has_square (slice_index words i) s ≡ true →
      (j : ℕ) × (slice_get states j ≡ Some (kind_of_number (i + 1), s))
  pub all : (j : ℕ) (s : Kind × ℕ) → j < k → slice_get states j ≡ Some s →
      has_square (slice_index words (number_of_kind s.0 - 1)) s.1 ≡ true

zero_at_each : (i : ℕ) → slice_index (replicate 6 0) i ≡ 0
zero_at_each i =
    elim (cases_lt i 6) [
      | inl less ↦ get_or-replicate 6 i 0 0 less
      | inr more ↦ get_or-eq_default (replicate 6 0) 0
          more
    ]

pub words_start : (states : List (Kind × ℕ)) → Words states 0 (replicate 6 0)
words_start states = record {
  size = refl;
  only =
      λ i s l m h. let wrong : false ≡ true =
      sym (has-zero s) ∙ ap (λ w. has_square w s) (sym (zero_at_each i)) ∙ h in absurd cc;
  all = λ j s l e. absurd (omega arith);
}

-- the word r is w with the square q put in
abbrev pub IsPut : ℕ → ℕ → ℕ → Type 0
IsPut w q r = (x : ℕ) → x < 64 → has_square r x ≡ cond (x == q) true (has_square w x)

pub put_there : (w q r : ℕ) → IsPut w q r → q < 64 → has_square r q ≡ true
put_there w q r h l = h q l ∙ ap (λ b. cond b true (has_square w q)) (eq-eqb q q refl)

pub put_keeps : (w q r x : ℕ) → IsPut w q r → x < 64 → has_square w x ≡ true → has_square r x ≡ true
put_keeps w q r x h l e =
    h x l ∙ elim (x == q) as (λ b. cond b true (has_square w x) ≡ true) [ true ↦ refl | false ↦ e ]

put_only : (w q r x : ℕ) → IsPut w q r → x < 64 → has_square r x ≡ true →
    (x ≡ q) ⊎ (has_square w x ≡ true)
put_only w q r x h l e =
    elim (cases_eq x q) [
      | inl same ↦ inl same
      | inr other ↦
          let test : (x == q) ≡ false = grind (arith, nat_tests) in
          inr (sym (h x l ∙ ap (λ b. cond b true (has_square w x)) test) ∙ e)
    ]

-- one more state
pub words_step : (states : List (Kind × ℕ)) (k : ℕ) (words : List ℕ) (st : Kind × ℕ) (i q r : ℕ) →
    AreStates states → Words states k words → slice_get states k ≡ Some st →
    i ≡ number_of_kind st.0 - 1 → q ≡ st.1 → IsPut (slice_index words i) q r →
    Words states (k + 1) (slice_set words i r)
words_step states k words st i q r a h e ei eq put =
    let kinds = kind_numbers st.0 in
    let low = (state_low 0 states k st a.increasing e).1 in
    let inside : i < length words = omega (arith, h.size, ei, kinds.0, kinds.1) in
    let here : slice_index (slice_set words i r) i ≡ r = get_or-set_same words i r 0 inside in
    record {
      size = length-set words i r ∙ h.size;
      only = λ m s l n t.
          elim (cases_eq m i) [
            | inl same ↦
                let at : has_square r s ≡ true = ap (λ w. has_square w s)
                (sym (ap (slice_index (slice_set words i r)) same ∙ here)) ∙ t in
                elim (put_only (slice_index words i) q r s put n at) [
                  | inl new ↦
                      let number : number_of_kind st.0 ≡ m + 1 = omega (arith, ei, same, kinds.0) in (
                        k,
                        e ∙ ap Some (pair_is st (kind_of_number (m + 1)) s
                            (sym (kind_back st.0) ∙ ap kind_of_number number) (sym eq ∙ sym new)),
                      )
                  | inr old ↦
                      h.only m s l n (ap (λ x. has_square (slice_index words x) s) same ∙ old)
                ]
            | inr other ↦
                h.only m s l n (ap (λ w. has_square w s)
                (sym (get_or-set_other words i m r 0 other)) ∙ t)
          ];
      all = λ j s l f.
          let on = (state_low 0 states j s a.increasing f).1 in
          elim (cases_lt j k) [
            | inl less ↦
                let old = h.all j s less f in
                elim (cases_eq (number_of_kind s.0 - 1) i) [
                  | inl same ↦
                      ap (λ w. has_square w s.1)
                      (ap (slice_index (slice_set words i r)) same ∙ here)
                      ∙ put_keeps (slice_index words i) q r s.1 put on
                      (ap (λ x. has_square (slice_index words x) s.1) (sym same) ∙ old)
                  | inr other ↦
                      ap (λ w. has_square w s.1)
                      (get_or-set_other words i (number_of_kind s.0 - 1) r 0 other)
                      ∙ old
                ]
            | inr more ↦
                let at : j ≡ k = omega arith in
                let same : st ≡ s = same_Some st s (sym e ∙ ap (slice_get states) (sym at) ∙ f) in
                subst (λ (x : Kind × ℕ). has_square
                (slice_index (slice_set words i r) (number_of_kind x.0 - 1)) x.1 ≡ true) same
                (ap (λ x. has_square (slice_index (slice_set words i r) x) st.1) (sym ei)
                ∙ ap (λ w. has_square w st.1) here ∙ ap (has_square r) (sym eq)
                ∙ put_there (slice_index words i) q r put (omega (arith, eq, low)))
          ];
    }

pub words_end : (states : List (Kind × ℕ)) (k : ℕ) (words : List ℕ) → length states ≤ k →
    Words states k words → AreWords states words
words_end states k words l h = record {
  size = h.size;
  only = h.only;
  all = λ j s e. h.all j s (omega (arith, slice_get_within states j s e)) e;
}

-- one more state, as the code reads it
pub words_read : (states : List (Kind × ℕ)) (k : ℕ) (words : List ℕ) (a b : Kind × ℕ) (i r : ℕ) →
    AreStates states → Words states k words → k < length states → a ≡ get_or states k a →
    b ≡ get_or states k b → i ≡ number_of_kind (get_or states k a).0 - 1 →
    IsPut (slice_index words i) (get_or states k b).1 r → Words states (k + 1) (slice_set words i r)
words_read states k words a b i r s h l ea eb ei put =
    let at_a = slice_get_read states (length states) k a refl l ea in
    let at_b = slice_get_read states (length states) k b refl l eb in
    let same : a ≡ b = same_Some a b (sym at_a ∙ at_b) in
    words_step states k words a i (get_or states k b).1 r s h at_a
    (ei ∙ ap (λ (y : Kind × ℕ). number_of_kind y.0 - 1) (sym ea))
    (ap (λ (y : Kind × ℕ). y.1) (sym eb) ∙ ap (λ (y : Kind × ℕ). y.1) (sym same)) put

-- a group's states are in order
pub states_read : (gs : List GroupLine) (i : ℕ) (g : GroupLine) →
    AllByRecursion (λ (g : GroupLine). AreStates g.states) gs → i < length gs → g ≡ get_or gs i g →
    AreStates g.states
states_read gs i g h l e =
    let rest : AllByRecursion (λ (g : GroupLine). AreStates g.states) (g ∷ drop (i + 1) gs) = subst
    (AllByRecursion (λ (g : GroupLine). AreStates g.states)) (drop_read gs i g l e)
    (all_drop (λ (g : GroupLine). AreStates g.states) gs i h) in
    rest.0

pub get_before : {X : Type 0} (xs ys : List X) (i : ℕ) → i < length xs →
    slice_get (xs ++ ys) i ≡ slice_get xs i
get_before [] ys i h = absurd (omega arith)
get_before (x ∷ xs) ys zero h = refl
get_before (x ∷ xs) ys (suc i) h = get_before xs ys i (omega arith)

pub get_last : {X : Type 0} (xs : List X) (x : X) → slice_get (xs ++ x ∷ []) (length xs) ≡ Some x
get_last [] x = refl
get_last (y ∷ xs) x = get_last xs x

-- the charts of the first n groups
pub record Charted (gs : List GroupLine) (n : ℕ) (charts : List Chart) : Type 0 where
  pub size : length charts ≡ n
  pub each : (i : ℕ) (g : GroupLine) (chart : Chart) → slice_get gs i ≡ Some g →
      slice_get charts i ≡ Some chart → IsChart g.states chart

pub charted_start : (gs : List GroupLine) → Charted gs 0 []
charted_start gs = record { size = refl; each = λ i g chart e f. absurd (none-some chart f) }

pub charted_step : (gs : List GroupLine) (n : ℕ) (charts : List Chart) (g : GroupLine)
    (chart : Chart) → Charted gs n charts → slice_get gs n ≡ Some g → IsChart g.states chart
    → Charted gs (n + 1) (charts ++ chart ∷ [])
charted_step gs n charts g chart h e is = record {
  size = omega (arith, length-append charts (chart ∷ []), h.size);
  each = λ i x y f k.
      elim (cases_lt i n) [
        | inl less ↦
            h.each i x y f (sym (get_before charts (chart ∷ []) i (omega (arith, h.size))) ∙ k)
        | inr more ↦
            let low = slice_get_within (charts ++ chart ∷ []) i y k in
            let last : i ≡ length charts = omega
            (arith, h.size, length-append charts (chart ∷ [])) in
            let at : i ≡ n = omega (arith, h.size) in
            let group : g ≡ x = same_Some g x (sym e ∙ ap (slice_get gs) (sym at) ∙ f) in
            let one : chart ≡ y = same_Some chart y
            (sym (get_last charts chart) ∙ ap (slice_get (charts ++ chart ∷ [])) (sym last)
            ∙ k) in
            subst (λ (z : GroupLine). IsChart z.states y) group (subst (IsChart g.states) one is)
      ];
}

pub charted_end : (gs : List GroupLine) (n : ℕ) (charts : List Chart) → Charted gs n charts →
    n ≡ length gs → AreCharts gs charts
charted_end gs n charts h e = record { size = h.size ∙ e; each = h.each }

-- with charts, the states of each group are in order
pub states_in_order : (gs : List GroupLine) (charts : List Chart) (k : ℕ) (g : GroupLine) →
    AreCharts gs charts → slice_get gs k ≡ Some g → AreStates g.states
states_in_order gs charts k g h there =
    let low = slice_get_within gs k g there in
    let size = h.size in
    (h.each k g _ there
    (slice_get-get_or charts k (record { words = []; cuts = []; first = 0; end = 0 })
    (omega (arith, low, size)))).in_order
