-- What a step keeps of the lists.
use Rattle.std.proofs.Common.{◌≡◌, ◌≢◌, ℕ, zero, suc, ◌+◌, ◌*◌, ◌<◌, ◌≤◌, ◌⊎◌, Bool, cond, nat_lt, List, [], ◌∷◌, get_or, set, length, refl, sym, ◌∙◌, ap, inl, inr, arith, get_or-set_same, get_or-set_other, length-set}
use Rattle.std.proofs.lemmas.Bool.{cases_eq, cases_lt, lt-ltb, le-ltb, cond-true, cond-false, eq-eqb, ne_eqb}
use Rattle.std.proofs.lemmas.List.{get_or_past}
use Rattle.frz_board.specs.Men.{same_colour}
use Rattle.frz_graph.specs.EntryCodes.{arm_code}
use Rattle.frz_retro.specs.Shape.{Shape}
use Rattle.frz_retro.specs.State.{IsSettled, State}
use Rattle.frz_retro.specs.Work.{ones, Queue, bar_at, Sized, Work}
use Rattle.frz_board.specs.declared.man.Colour.{Colour}
use Rattle.frz_arena.specs.declared.node.Node.TheVariants.{Going}
use Rattle.frz_retro.proofs.StateFacts.{settle_keeps, done_same}

-- one entry fewer is 1
abbrev one_of : Bool → ℕ
one_of b = cond b 1 0

pub ones_set : (E : List ℕ) (i c : ℕ) → get_or E i 0 ≡ 1 → c ≢ 1 → ones (set E i c) + 1 ≡ ones E
ones_set [] i c e n = absurd (omega (arith, e))
ones_set (x ∷ E) zero c e n =
    let a = ap one_of (ne_eqb c 1 n) in let b = ap one_of (eq-eqb x 1 e) in omega (arith, a, b)
ones_set (x ∷ E) (suc i) c e n = let h = ones_set E i c e n in omega (arith, h)

-- an entry above 0 is within the list
pub within : (E : List ℕ) (i : ℕ) → 0 < get_or E i 0 → i < length E
within E i h =
    elim (cases_lt i (length E))
    [ inl l ↦ l | inr l ↦ let z = get_or_past E i 0 l in absurd (omega (arith, z, h)) ]

-- what was written is read
pub read_back : (C : List ℕ) (i x : ℕ) → 0 < get_or C i 0 → get_or (set C i x) i 0 ≡ x
read_back C i x h = get_or-set_same C i x 0 (within C i h)

-- one open number settles
pub queue_keeps : {k mid : ℕ} {E Q : List ℕ} {tail : ℕ} (i c : ℕ) → Queue k mid E Q tail →
    mid ≤ tail → get_or E i 0 ≡ 1 → 2 + 2 * k ≤ c →
    Queue k mid (set E i c) (set Q tail i) (tail + 1)
queue_keeps {k} {mid} {E} {Q} {tail} i c u m one long =
    let F = set E i c in
    let R = set Q tail i in
    let fewer = ones_set E i c one (λ e. omega (arith, e, long)) in
    let room = u.room in
    let here : tail < length Q = omega (arith, fewer, room) in
    let at : get_or F i 0 ≡ c = read_back E i c (omega (arith, one)) in
    let front : (t : ℕ) → t < tail → get_or R t 0 ≡ get_or Q t 0 = λ t l. get_or-set_other Q tail t
    i 0 (λ e. omega (arith, e, l)) in
    let back : get_or R tail 0 ≡ i = get_or-set_same Q tail i 0 here in
    let stays : (q : ℕ) → 2 ≤ get_or E q 0
    → get_or F q 0 ≡ get_or E q 0 =
    λ q h. get_or-set_other E i q c 0
    (λ e. let y = ap (λ (x : ℕ). get_or E x 0) e in omega (arith, y, one, h)) in
    let value : (t : ℕ) → t < tail → get_or F (get_or R t 0) 0 ≡ get_or E (get_or Q t 0) 0 = λ t l.
    ap (λ (x : ℕ). get_or F x 0) (front t l) ∙ stays (get_or Q t 0) (u.each t l) in
    let last : get_or F (get_or R tail 0) 0 ≡ c = ap (λ (x : ℕ). get_or F x 0) back ∙ at in
    let cases : (t : ℕ) → t < tail + 1
    → (t < tail) ⊎ (t ≡ tail) =
    λ t l. elim (cases_lt t tail) [ inl y ↦ inl y | inr y ↦ inr (omega (arith, y, l)) ] in
    record {
      room = let y = length-set Q tail i in omega (arith, y, fewer, room);
      each = λ t l. elim (cases t l) [
        | inl y ↦ let v = value t y in let e = u.each t y in omega (arith, v, e)
        | inr y ↦
            let v = ap (λ (x : ℕ). get_or F (get_or R x 0) 0) y in
            omega (arith, v, last, long)
      ];
      old = λ t l.
          let y : t < tail = omega (arith, l, m) in
          let v = value t y in
          let e = u.old t l in
          omega (arith, v, e);
      young = λ t g l. elim (cases t l) [
        | inl y ↦ let v = value t y in let e = u.young t g y in omega (arith, v, e)
        | inr y ↦
            let v = ap (λ (x : ℕ). get_or F (get_or R x 0) 0) y in
            omega (arith, v, last, long)
      ];
      found = λ q h. elim (cases_eq q i) [
        | inl e ↦ (tail, omega arith, back ∙ sym e)
        | inr n ↦
            let s = get_or-set_other E i q c 0 n in
            let w = u.found q (omega (arith, s, h)) in
            let l = w.1 in
            (w.0, omega (arith, l), front w.0 w.1 ∙ w.2)
      ];
      once = λ s t a b e. elim (cases s a) [
        | inl x ↦ elim (cases t b) [
          | inl y ↦ u.once s t x y (sym (front s x) ∙ (e ∙ front t y))
          | inr y ↦
              let z = u.each s x in
              let f = sym (front s x) ∙ (e ∙ (ap (λ (x : ℕ). get_or R x 0) y ∙ back)) in
              let g = ap (λ (x : ℕ). get_or E x 0) f in
              absurd (omega (arith, z, g, one))
        ]
        | inr x ↦ elim (cases t b) [
          | inl y ↦
              let z = u.each t y in
              let f = sym (front t y) ∙ (sym e ∙ (ap (λ (x : ℕ). get_or R x 0) x ∙ back)) in
              let g = ap (λ (x : ℕ). get_or E x 0) f in
              absurd (omega (arith, z, g, one))
          | inr y ↦ x ∙ sym y
        ]
      ];
    }

pub sized_keeps : {n : ℕ} {E C L Q : List ℕ} (i c t : ℕ) → Sized n E C L Q →
    Sized n (set E i c) C L (set Q t i)
sized_keeps {E = E} {Q = Q} i c t s =
    record {
      codes = length-set E i c ∙ s.codes;
      counts = s.counts;
      later = s.later;
      queue = length-set Q t i ∙ s.queue;
    }

-- a number of the graph settles
pub work_settles : {B : Shape} {side : Colour} {k mid : ℕ} {bar : ℕ → ℕ} {done : ℕ → ℕ → Bool}
    {E C L Q : List ℕ} {tail : ℕ} (i : ℕ) (c : Colour) (code : ℕ) →
    Work B side k mid bar done E C L Q tail → i < B.size → B.arena.node i ≡ Going c →
    get_or E i 0 ≡ 1 → 2 + 2 * k ≤ code → code < 4 + 2 * k →
    IsSettled (same_colour c side) (arm_code side E) (B.arena.arms i) code →
    Work B side k mid bar done (set E i code) C L (set Q tail i) (tail + 1)
work_settles {E = E} {tail = tail} i c code w in_size node one least most h = record {
  state =
      settle_keeps i c code w.state in_size (within E i (omega (arith, one))) node one least most h;
  queue = queue_keeps i code w.queue w.within one least;
  sized = sized_keeps i code tail w.sized;
  passes = w.passes;
  within = let y = w.within in omega (arith, y);
  ended = w.ended;
}

-- other facts on the numbers, by the same codes and the same queue
pub work_by : {B : Shape} {side : Colour} {k mid : ℕ} {bar other : ℕ → ℕ} {done more : ℕ → ℕ → Bool}
    {E C D L Q : List ℕ} {tail : ℕ} → Work B side k mid bar done E C L Q tail →
    State B side k other more E D L → length D ≡ length C →
    Work B side k mid other more E D L Q tail
work_by w s long = record {
  state = s;
  queue = w.queue;
  sized = record {
    codes = w.sized.codes;
    counts = long ∙ w.sized.counts;
    later = w.sized.later;
    queue = w.sized.queue;
  };
  passes = w.passes;
  within = w.within;
  ended = w.ended;
}

-- other facts on what is done
pub work_done : {B : Shape} {side : Colour} {k mid : ℕ} {bar : ℕ → ℕ} {done more : ℕ → ℕ → Bool}
    {E C L Q : List ℕ} {tail : ℕ} → Work B side k mid bar done E C L Q tail →
    ((i q : ℕ) → more i q ≡ done i q) → Work B side k mid bar more E C L Q tail
work_done w h =
    work_by w
    (done_same w.state (λ i a q _ _ _. h i q)
    (λ i q t. w.state.low i q (sym (h i q) ∙ t)) (λ i q t. w.state.high i q (sym (h i q) ∙ t))) refl

pub bar_of : (k s i : ℕ) → i < s → bar_at k s i ≡ 4 + 2 * k
bar_of k s i l = cond-true (nat_lt i s) (4 + 2 * k) (2 + 2 * k) (lt-ltb i s l)

pub bar_past : (k s i : ℕ) → s ≤ i → bar_at k s i ≡ 2 + 2 * k
bar_past k s i l = cond-false (nat_lt i s) (4 + 2 * k) (2 + 2 * k) (le-ltb i s l)

pub bar_within : (k s i : ℕ) → (2 + 2 * k ≤ bar_at k s i) × (bar_at k s i ≤ 4 + 2 * k)
bar_within k s i = elim (cases_lt i s) [
  | inl l ↦ let e = bar_of k s i l in (omega (arith, e), omega (arith, e))
  | inr l ↦ let e = bar_past k s i l in (omega (arith, e), omega (arith, e))
]

pub ones_pos : (E : List ℕ) (i : ℕ) → get_or E i 0 ≡ 1 → 0 < ones E
ones_pos [] i e = absurd (omega (arith, e))
ones_pos (x ∷ E) zero e = let b = ap one_of (eq-eqb x 1 e) in omega (arith, b)
ones_pos (x ∷ E) (suc i) e = let h = ones_pos E i e in omega (arith, h)

-- where a number is open, the queue has room
pub room_for : {k mid : ℕ} {E Q : List ℕ} {tail : ℕ} (i : ℕ) → Queue k mid E Q tail →
    get_or E i 0 ≡ 1 → tail < length Q
room_for {E = E} i u e = let p = ones_pos E i e in let r = u.room in omega (arith, p, r)
