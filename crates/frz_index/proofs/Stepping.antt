-- A man's step to an empty square: the cells, and the digit of one group.
use Rattle.std.proofs.Common.{◌≡◌, ◌≢◌, ℕ, zero, suc, ◌+◌, ◌-◌, ◌*◌, ◌<◌, ◌≤◌, Bool, true, false, cond, Option, None, Some, List, [], ◌∷◌, length, slice_index, refl, ap, sym, subst, ◌∙◌, arith, inl, inr, ◌⊎◌}
use Rattle.std.proofs.Common.{length-set, slice_set}
use Rattle.std.specs.Prelude.{◌==◌, ◌&&◌}
use Rattle.std.specs.List.{slice_get}
use Rattle.std.proofs.lemmas.Bool.{and_from, and_parts, and_right, cases_Bool, cases_eq, eqb-true, eq-eqb, false_from_ne_true}
use Rattle.std.proofs.lemmas.Option.{same_Some, slice_get_within}
use Rattle.frz_board.proofs.Lemmas.{cell_back, cell-some, set_at}
use Rattle.frz_board.specs.declared.man.Colour.{Colour}
use Rattle.frz_board.specs.declared.man.Colour.TheVariants.{White, Black}
use Rattle.frz_board.specs.declared.man.Kind.{Kind}
use Rattle.frz_board.specs.declared.man.Kind.TheVariants.{King, Queen, Rook, Bishop, Knight, Pawn}
use Rattle.frz_board.specs.Moving.{Step}
use Rattle.frz_fide.specs.Legal.{advances, after, after_man, beside_on_file, is_home, is_target, passed_over, takes_in_passing}
use Rattle.frz_board.specs.declared.man.Man.{Man}
use Rattle.frz_board.specs.Boards.{Board, is_empty, man_on}
use Rattle.frz_board.specs.EnPassant.{has_pawn_beside}
use Rattle.frz_board.specs.Squares.{files_apart, is_forward, rank_of}
use Rattle.frz_board.specs.Men.{cell_of_man, number_of_kind, other_of}
use Rattle.frz_combinations.proofs.Lemmas.{choose-one, place_counts}
use Rattle.frz_combinations.specs.Binomials.{choose}
use Rattle.frz_combinations.specs.Combinations.{places_below}
use Rattle.frz_combinations.specs.Selections.{choices, digit}
use Rattle.frz_sets.specs.Groups.{state_number}
use Rattle.frz_sets.specs.Sets.{is_state}
use Rattle.frz_sets.specs.Sound.{AreStates}
use Rattle.frz_sets.specs.Views.{GroupLine}
use Rattle.frz_index.proofs.Charting.{cut_at, kind_numbers, pair_is, state_order}
use Rattle.frz_index.specs.Charts.{IsChart}
use Rattle.frz_index.specs.declared.chart.Chart.{Chart}
use Rattle.frz_index.proofs.Counting.{skip}
use Rattle.frz_index.proofs.Partners.{same_below}
use Rattle.frz_index.proofs.RoomForMen.{any_at, any_found, at_itself, at_parts, is_at, same_man}
use Rattle.frz_index.specs.Places.{IsWithinCount, digit_of, places, stands}
use Rattle.frz_index.specs.Stepping.{IsPlace, IsQuiet, IsStep, is_plain, stepped}

-- the group's digit grows by up and falls by down, and it has as many men
pub record Shifts (p q : Board) (cell a b : ℕ) (g : GroupLine) (up down : ℕ) : Type 0 where
  pub digit : digit_of q g + down ≡ digit_of p g + up
  pub counted : IsWithinCount q g
  pub covered : is_state cell a g ≡ true → is_state cell b g ≡ true

-- where a test holds at one place at most, it holds there alone
pub single : (f : ℕ → Bool) (n k : ℕ) → k < n → f k ≡ true → length (places_below f n) ≤ 1 →
    places_below f n ≡ k ∷ []
single f zero k l e one = absurd (omega arith)
single f (suc n) k l e one =
    elim (cases_eq k n) [
      | inl here ↦
          let on : f n ≡ true = ap f (sym here) ∙ e in
          let is : places_below f (suc n) ≡ n ∷ places_below f n =
          ap (λ b. cond b (n ∷ places_below f n) (places_below f n)) on in
          is ∙ ap (λ ks. n ∷ ks) (none_left (places_below f n) (omega (arith, one, ap length is)))
          ∙ ap (λ j. j ∷ []) (sym here)
      | inr other ↦
          let less : k < n = omega (arith, l, other) in
          elim (cases_Bool (f n)) [
            | inl on ↦
                let is : places_below f (suc n) ≡ n ∷ places_below f n =
                ap (λ b. cond b (n ∷ places_below f n) (places_below f n)) on in
                absurd (omega (arith, one, ap length is, place_counts f k n less e))
            | inr off ↦
                let is : places_below f (suc n) ≡ places_below f n =
                ap (λ b. cond b (n ∷ places_below f n) (places_below f n)) off in
                is ∙ single f n k less e (omega (arith, one, ap length is))
          ]
    ]
  where
    none_left : (ks : List ℕ) → length ks ≤ 0 → ks ≡ []
    none_left [] h = refl
    none_left (x ∷ ks) h = absurd (omega arith)

-- so two such places are one
pub one_place : (f : ℕ → Bool) (n j k : ℕ) → j < n → k < n → f j ≡ true → f k ≡ true →
    length (places_below f n) ≤ 1 → j ≡ k
one_place f n j k lj lk ej ek one = heads (sym (single f n j lj ej one) ∙ single f n k lk ek one)
  where
    heads : {x y : ℕ} → x ∷ [] ≡ y ∷ [] → x ≡ y
    heads e = cc

-- where a test holds at one place alone
one_place_alone : (f : ℕ → Bool) (n k : ℕ) → k < n → f k ≡ true →
    ((j : ℕ) → j < n → f j ≡ true → j ≡ k) → places_below f n ≡ k ∷ []
one_place_alone f zero k l e alone = absurd (omega arith)
one_place_alone f (suc n) k l e alone =
    elim (cases_eq k n) [
      | inl here ↦
          let on : f n ≡ true = ap f (sym here) ∙ e in
          let is : places_below f (suc n) ≡ n ∷ places_below f n =
          ap (λ b. cond b (n ∷ places_below f n) (places_below f n)) on in
          let none : places_below f n ≡ [] =
          skip f 0 n (omega arith)
          (λ j low less. false_from_ne_true (f j)
          (λ t. let same = alone j (omega (arith, less)) t in
          absurd (omega (arith, same, here, less)))) in
          is ∙ ap (λ ks. n ∷ ks) none ∙ ap (λ j. j ∷ []) (sym here)
      | inr other ↦
          let less : k < n = omega (arith, l, other) in
          let off : f n ≡ false = false_from_ne_true (f n)
          (λ t. let same = alone n (omega arith) t in absurd (omega (arith, same, less))) in
          let is : places_below f (suc n) ≡ places_below f n =
          ap (λ b. cond b (n ∷ places_below f n) (places_below f n)) off in
          is ∙ one_place_alone f n k less e (λ j lj t. alone j (omega (arith, lj)) t)
    ]

-- a state stands at one place
pub state_once : (states : List (Kind × ℕ)) (j k : ℕ) (s t : Kind × ℕ) → AreStates states →
    slice_get states j ≡ Some s → slice_get states k ≡ Some t → state_number s ≡ state_number t →
    j ≡ k
state_once states j k s t h ej ek same =
    elim (cases_eq j k) [
      | inl e ↦ e
      | inr other ↦ elim (apart j k other) [
        | inl less ↦ absurd (let o = state_order 0 states j k s t h.increasing less ej ek in
            omega (arith, o, same))
        | inr more ↦ absurd (let o = state_order 0 states k j t s h.increasing more ek ej in
            omega (arith, o, same))
      ]
    ]
  where
    apart : (j k : ℕ) → j ≢ k → (j < k) ⊎ (k < j)
    apart zero zero n = absurd (n refl)
    apart zero (suc k) n = inl (omega arith)
    apart (suc j) zero n = inr (omega arith)
    apart (suc j) (suc k) n = elim (apart j k (λ e. n (ap suc e))) [
      | inl l ↦ inl (omega (arith, l))
      | inr l ↦ inr (omega (arith, l))
    ]

pub no_man : (x : ℕ) (c : Colour) (k : Kind) → x ≡ 0 →
    (x == cell_of_man (record { colour = c; kind = k })) ≡ false
no_man x c k e =
    false_from_ne_true (x == cell_of_man (record { colour = c; kind = k }))
    (λ t. absurd (let same = eqb-true x (cell_of_man (record { colour = c; kind = k })) t in
    let some = cell-some c k in omega (arith, e, same, some)))

-- a man that is no state of the group on a square is not that of a state there
pub not_the_man : (g : GroupLine) (man : Man) (j : ℕ) (st : Kind × ℕ) (s : ℕ) →
    slice_get g.states j ≡ Some st → st.1 ≡ s → is_state (cell_of_man man) s g ≡ false →
    (cell_of_man man == cell_of_man (record { colour = g.colour; kind = st.0 })) ≡ false
not_the_man g man j st s e at off =
    false_from_ne_true
    (cell_of_man man == cell_of_man (record { colour = g.colour; kind = st.0 }))
    (λ t.
    let same = same_man man (record { colour = g.colour; kind = st.0 })
    (eqb-true (cell_of_man man) (cell_of_man (record { colour = g.colour; kind = st.0 })) t) in
    let there = any_at (is_at g.colour man s) g.states j st e
    (and_from _ _
    (eq-eqb (cell_of_man (record { colour = g.colour; kind = st.0 })) (cell_of_man man)
    (ap cell_of_man (sym same))) (eq-eqb st.1 s at)) in
    absurd cc)

-- the man of a place stands there
pub stands_there : (g : GroupLine) (man : Man) (r : Board) (s k : ℕ) → IsPlace g man s k →
    slice_index r.cells s ≡ cell_of_man man →
    stands r g.colour (slice_get g.states k) ≡ true
stands_there g man r s k pl is =
    ap (stands r g.colour) pl.1
    ∙ eq-eqb (slice_index r.cells s)
    (cell_of_man (record { colour = g.colour; kind = man.kind }))
    (is ∙ ap (λ c. cell_of_man (record { colour = c; kind = man.kind })) (sym pl.0))

-- a group whose states have the same men on both boards
module _ (p q : Board) (cell a b : ℕ) (g : GroupLine)
    (same_stand : (j : ℕ) (o : Option (Kind × ℕ)) → slice_get g.states j ≡ o →
    stands q g.colour o ≡ stands p g.colour o)
    (covered : is_state cell a g ≡ true → is_state cell b g ≡ true) where
  same_places : places q g ≡ places p g
  same_places =
      same_below (λ k. stands q g.colour (slice_get g.states k))
      (λ k. stands p g.colour (slice_get g.states k))
      (λ k. same_stand k (slice_get g.states k) refl) (length g.states)

  pub unshifted : IsWithinCount p g → Shifts p q cell a b g 0 0
  unshifted w =
      let same = sym (ap length same_places) in
      record {
        digit = ap (λ d. d + 0) (ap (digit (length g.states) g.least) same_places);
        counted = record {
          least = subst (λ n. g.least ≤ n) same w.least;
          most = subst (λ n. n ≤ g.most) same w.most;
        };
        covered = covered;
      }

-- the man goes to an empty square
pub step_to_empty : (p : Board) (man : Man) (a b : ℕ) → length p.cells ≡ 64 → a < 64 → b < 64 →
    man_on p a ≡ Some man → is_empty p b ≡ true → IsStep p man a b
step_to_empty p man a b size from to stands empty = record {
  size = size;
  from = from;
  to = to;
  stood = cell_back _ man.colour man.kind stands;
  free = eqb-true _ 0 empty;
}

module _ (p : Board) (man : Man) (a b : ℕ) (target : Option ℕ) (h : IsStep p man a b) where
  abbrev pub q : Board
  q = stepped p man a b target

  apart : a ≢ b
  apart e = let some = cell-some man.colour man.kind in
      let here = ap (slice_index p.cells) e in
      omega (arith, h.stood, h.free, here, some)

  pub at_to : slice_index q.cells b ≡ cell_of_man man
  at_to =
      set_at (slice_set p.cells a 0) b (cell_of_man man) b
      (rw length-set (omega (arith, h.size, h.to)))
      ∙ ap (λ t. cond t (cell_of_man man)
      (slice_index (slice_set p.cells a 0) b)) (eq-eqb b b refl)

  at_other : (s : ℕ) → s ≢ b → slice_index q.cells s ≡ (cond (s == a) 0 (slice_index p.cells s))
  at_other s n =
      set_at (slice_set p.cells a 0) b (cell_of_man man) s
      (rw length-set (omega (arith, h.size, h.to)))
      ∙ ap (λ t. cond t (cell_of_man man)
      (slice_index (slice_set p.cells a 0) s))
      (false_from_ne_true (s == b) (λ t. n (eqb-true s b t)))
      ∙ set_at p.cells a 0 s (omega (arith, h.size, h.from))

  pub at_from : slice_index q.cells a ≡ 0
  at_from = at_other a apart ∙ ap (λ t. cond t 0 (slice_index p.cells a)) (eq-eqb a a refl)

  pub at_rest : (s : ℕ) → s ≢ a → s ≢ b → slice_index q.cells s ≡ slice_index p.cells s
  at_rest s n m =
      at_other s m
      ∙ ap (λ t. cond t 0 (slice_index p.cells s))
      (false_from_ne_true (s == a) (λ t. n (eqb-true s a t)))

  -- a group that has the man on neither square
  module _ (g : GroupLine) (off_a : is_state (cell_of_man man) a g ≡ false)
      (off_b : is_state (cell_of_man man) b g ≡ false) where
    same_stand : (j : ℕ) (o : Option (Kind × ℕ)) → slice_get g.states j ≡ o →
        stands q g.colour o ≡ stands p g.colour o
    same_stand j None e = refl
    same_stand j (Some st) e =
        elim (cases_eq st.1 a) [
          | inl here ↦
              no_man (slice_index q.cells st.1) g.colour st.0
              (ap (slice_index q.cells) here ∙ at_from)
              ∙ sym (ap (λ x. x == cell_of_man (record { colour = g.colour; kind = st.0 }))
              (ap (slice_index p.cells) here ∙ h.stood) ∙ not_the_man g man j st a e here off_a)
          | inr left ↦ elim (cases_eq st.1 b) [
            | inl here ↦
                ap (λ x. x == cell_of_man (record { colour = g.colour; kind = st.0 }))
                (ap (slice_index q.cells) here ∙ at_to) ∙ not_the_man g man j st b e here off_b
                ∙ sym (no_man (slice_index p.cells st.1) g.colour st.0
                (ap (slice_index p.cells) here ∙ h.free))
            | inr right ↦
                ap (λ x. x == cell_of_man (record { colour = g.colour; kind = st.0 }))
                (at_rest st.1 left right)
          ]
        ]

    pub stays : IsWithinCount p g → Shifts p q (cell_of_man man) a b g 0 0
    stays = unshifted p q (cell_of_man man) a b g same_stand (λ t. absurd cc)

  -- a group that has the man on both, and no other man
  module _ (g : GroupLine) (in_order : AreStates g.states) (ka kb : ℕ) (pa : IsPlace g man a ka)
      (pb : IsPlace g man b kb) (one : g.most ≡ 1) where
    before_is : IsWithinCount p g → places p g ≡ ka ∷ []
    before_is w =
        single (λ k. stands p g.colour (slice_get g.states k)) (length g.states) ka
        (slice_get_within g.states ka (man.kind, a) pa.1) (stands_there g man p a ka pa h.stood)
        (omega (arith, w.most, one))

    alone : IsWithinCount p g → (j : ℕ) (o : Option (Kind × ℕ)) → slice_get g.states j ≡ o →
        j < length g.states → stands q g.colour o ≡ true → j ≡ kb
    alone w j None e l t = absurd cc
    alone w j (Some st) e l t =
        elim (cases_eq st.1 b) [
          | inl here ↦
              let same = same_man man (record { colour = g.colour; kind = st.0 })
              (sym (ap (slice_index q.cells) here ∙ at_to)
              ∙ eqb-true (slice_index q.cells st.1)
              (cell_of_man (record { colour = g.colour; kind = st.0 })) t) in
              let kinds : st.0 ≡ man.kind = ap (λ (m : Man). m.kind) (sym same) in
              state_once g.states j kb st (man.kind, b) in_order e pb.1
              (numbers st.0 man.kind st.1 b kinds here)
          | inr right ↦ elim (cases_eq st.1 a) [
            | inl here ↦
                let off = no_man (slice_index q.cells st.1) g.colour st.0
                (ap (slice_index q.cells) here ∙ at_from) in
                absurd cc
            | inr left ↦
                let on : stands p g.colour (slice_get g.states j) ≡ true =
                ap (stands p g.colour) e
                ∙ ap (λ x. x == cell_of_man (record { colour = g.colour; kind = st.0 }))
                (sym (at_rest st.1 left right)) ∙ t in
                let same = one_place (λ k. stands p g.colour (slice_get g.states k))
                (length g.states) j ka l (slice_get_within g.states ka (man.kind, a) pa.1) on
                (stands_there g man p a ka pa h.stood) (omega (arith, w.most, one)) in
                let states = same_Some st (man.kind, a)
                (sym e ∙ ap (slice_get g.states) same ∙ pa.1) in
                absurd (left (ap (λ (x : Kind × ℕ). x.1) states))
          ]
        ]
      where
        numbers : (k l : Kind) (s t : ℕ) → k ≡ l → s ≡ t →
            state_number (k, s) ≡ state_number (l, t)
        numbers k l s t e f =
            ap (λ (x : Kind). state_number (x, s)) e ∙ ap (λ (x : ℕ). state_number (l, x)) f

    after_is : IsWithinCount p g → places q g ≡ kb ∷ []
    after_is w =
        one_place_alone (λ k. stands q g.colour (slice_get g.states k)) (length g.states) kb
        (slice_get_within g.states kb (man.kind, b) pb.1) (stands_there g man q b kb pb at_to)
        (λ j l t. alone w j (slice_get g.states j) refl l t)

    pub moves : IsWithinCount p g → Shifts p q (cell_of_man man) a b g kb ka
    moves w =
        let before = before_is w in
        let after = after_is w in
        let size_before = ap length before in
        let size_after = ap length after in
        record {
          digit =
              let first = choices (length g.states) g.least (1 - g.least) in
              let dp : digit_of p g ≡ first + (choose ka 1 + 0) =
              ap (digit (length g.states) g.least) before in
              let dq : digit_of q g ≡ first + (choose kb 1 + 0) =
              ap (digit (length g.states) g.least) after in
              omega (arith, dp, dq, choose-one ka, choose-one kb);
          counted = record {
            least = omega (arith, w.least, size_before, size_after);
            most = omega (arith, w.most, size_before, size_after);
          };
          covered = λ _. any_at (is_at g.colour man b) g.states kb (man.kind, b) pb.1
              (ap (λ c. is_at c man b (man.kind, b)) pb.0 ∙ at_itself man b man.kind refl);
        }

-- where the group has the man on the square, the chart has its place
pub placed : (g : GroupLine) (chart : Chart) (man : Man) (s k n : ℕ) → IsChart g.states chart →
    s < 64 → is_state (cell_of_man man) s g ≡ true → k ≡ number_of_kind man.kind - 1 → n ≡ s →
    IsPlace g man s (slice_index chart.cuts (64 * k + n))
placed g chart man s k n h low t ek en =
    let found = any_found (is_at g.colour man s) g.states t in
    let parts = at_parts g.colour man s found.1 found.3 in
    let numbers = kind_numbers man.kind in
    let is : found.1 ≡ (man.kind, s) = pair_is found.1 man.kind s parts.1 parts.2 in
    let number : state_number found.1 ≡ 64 * k + n =
    ap state_number is ∙ (let e = ek in omega (arith, e, en)) in
    let x = 64 * k + n in
    let at = cut_at g.states x (slice_index chart.cuts x) found.0 found.1 h.in_order
    (h.cuts_are.cut x (omega (arith, ek, en, numbers.1, low))) found.2 number in
    (parts.0, ap (slice_get g.states) (sym at) ∙ found.2 ∙ ap Some is)

not_two : (c : Colour) (a b : ℕ) → is_forward c 1 a b ≡ true → is_forward c 2 a b ≡ false
not_two White a b e =
    let one = eqb-true (rank_of b) (rank_of a + 1) e in
    false_from_ne_true (rank_of b == rank_of a + 2)
    (λ t. let two = eqb-true (rank_of b) (rank_of a + 2) t in absurd (omega (arith, one, two)))
not_two Black a b e =
    let one = eqb-true (rank_of a) (rank_of b + 1) e in
    false_from_ne_true (rank_of a == rank_of b + 2)
    (λ t. let two = eqb-true (rank_of a) (rank_of b + 2) t in absurd (omega (arith, one, two)))

-- a pawn's step leaves no target, and takes nothing
pawn_step : (p : Board) (c : Colour) (a b : ℕ) →
    (files_apart a b == 0 && is_forward c 1 a b) ≡ true →
    after_man p (Some (record { colour = c; kind = Pawn }))
    (record { from = a; to = b; promo = None })
    ≡ stepped p (record { colour = c; kind = Pawn }) a b None
pawn_step p c a b e =
    let parts = and_parts (files_apart a b == 0) (is_forward c 1 a b) e in
    let moved = slice_set (slice_set p.cells a 0) b
    (cell_of_man (record { colour = c; kind = Pawn })) in
    let made : List ℕ → Option ℕ → Board = λ cells target.
    record { cells = cells; turn = other_of p.turn; ep = target } in
    let beside = has_pawn_beside p (other_of c) b in
    let free = is_empty p b && is_empty p (passed_over a b) in
    let straight : takes_in_passing p c a b ≡ false =
    ap (λ n. (n == 1 && is_forward c 1 a b) && is_target p.ep b)
    (eqb-true (files_apart a b) 0 parts.0) in
    let near : advances p c a b ≡ false =
    ap (λ t. (is_home c a && (files_apart a b == 0 && t)) && free) (not_two c a b parts.1)
    ∙ ap (λ t. (is_home c a && t) && free) (and_right (files_apart a b == 0) false refl)
    ∙ ap (λ t. t && free) (and_right (is_home c a) false refl) in
    ap (λ t. made (cond t (slice_set moved (beside_on_file a b) 0) moved)
    (cond (advances p c a b && beside) (Some (passed_over a b)) None)) straight
    ∙ ap (λ t. made moved (cond (t && beside) (Some (passed_over a b)) None)) near

-- the position after a quiet move
quiet_kind : (p : Board) (c : Colour) (k : Kind) (a b : ℕ) →
    is_plain (record { colour = c; kind = k }) a b ≡ true →
    after_man p (Some (record { colour = c; kind = k })) (record { from = a; to = b; promo = None })
    ≡ stepped p (record { colour = c; kind = k }) a b None
quiet_kind p c King a b e = refl
quiet_kind p c Queen a b e = refl
quiet_kind p c Rook a b e = refl
quiet_kind p c Bishop a b e = refl
quiet_kind p c Knight a b e = refl
quiet_kind p c Pawn a b e = pawn_step p c a b e

pub after_quiet : (p : Board) (m : Step) (man : Man) → IsQuiet p m man →
    after p m ≡ stepped p man m.from m.to None
after_quiet p m man h =
    ap (λ o. after_man p o m) h.man_is
    ∙ ap (λ (o : Option Kind). let s : Step = record { from = m.from; to = m.to; promo = o } in
    after_man p (Some man) s) h.promo
    ∙ quiet_kind p man.colour man.kind m.from m.to h.plain
