-- The queue, when the numbers from a place on come in another order.
use Rattle.std.proofs.Common.{◌≡◌, ℕ, ◌+◌, ◌-◌, ◌*◌, ◌<◌, ◌≤◌, eqb, List, ◌++◌, length, get_or, take, slice_range, Contains, IsPermutation, sym, ◌∙◌, ap, subst, inl, inr, arith, length-take-le, get_or-take, ext_get_or, take-add, ne_eqb, eq-eqb}
use Rattle.std.proofs.lemmas.Bool.{cases_lt, false≢true}
use Rattle.std.proofs.lemmas.List.{get_or_default}
use Rattle.std.proofs.lemmas.List.Elements.{All-from_get_or, All-get_or, Contains-get_or}
use Rattle.std.proofs.lemmas.List.Sorted.{All-permutation, Contains-permutation, IsPermutation-append_right}
use Rattle.std.proofs.lemmas.Map.Keys.{IsDistinct-IsPermutation, IsDistinct-from_apart, apart_from_distinct}
use Rattle.std.specs.Cmp.{nat_eq_equiv}
use Rattle.frz_board.specs.declared.man.Colour.{Colour}
use Rattle.frz_board.specs.Moving.{Step}
use Rattle.frz_sets.specs.declared.exit.Value.{Value}
use Rattle.frz_arena.specs.Arena.{Arena}
use Rattle.frz_retro.specs.Shape.{Shape}
use Rattle.frz_retro.specs.Tallies.{ChangesOnlyFrom, InPass, Tally, queued_from}
use Rattle.frz_retro.specs.Work.{Queue, Work, done_by, done_in}
use Rattle.frz_retro.proofs.QueueFront.{done_by_same}
use Rattle.frz_retro.proofs.WorkFacts.{work_done}

-- The numbers below tail are the same, where those below head are, and those from head on are in
-- another order.
pub same_numbers : (Q R : List ℕ) (head tail : ℕ) → head ≤ tail → tail ≤ length Q →
    length R ≡ length Q → ((t : ℕ) → t < head → get_or R t 0 ≡ get_or Q t 0) →
    IsPermutation (slice_range Q head tail) (slice_range R head tail) →
    IsPermutation (take tail Q) (take tail R)
same_numbers Q R head tail h l long same part =
    let whole : head + (tail - head) ≡ tail = omega arith in
    let was = length-take-le head Q (omega arith) in
    let is = length-take-le head R (omega arith) in
    let front : take head R ≡ take head Q = ext_get_or 0 (take head R) (take head Q) (is ∙ sym was)
    (λ t x. get_or-take head R t 0 (omega arith)
    ∙ (same t (omega arith) ∙ sym (get_or-take head Q t 0 (omega arith)))) in
    let cut : (S : List ℕ) → take tail S ≡ take head S ++ slice_range S head tail = λ S.
    ap (λ (n : ℕ). take n S) (sym whole) ∙ take-add head (tail - head) S in
    rw (cut Q, cut R, front)
    (IsPermutation-append_right (take head Q) (slice_range Q head tail) (slice_range R head tail)
    part)

read : (S : List ℕ) (n i d : ℕ) → i < n → i < length S → get_or (take n S) i d ≡ get_or S i 0
read S n i d x y = get_or-take n S i d x ∙ get_or_default S i d 0 y

module _ (Q R : List ℕ) (tail : ℕ) (l : tail ≤ length Q) (m : tail ≤ length R)
    (same : IsPermutation (take tail Q) (take tail R)) where
  each_still : (P : ℕ → Type 0) → ((t : ℕ) → t < tail → P (get_or Q t 0)) → (t : ℕ) → t < tail →
      P (get_or R t 0)
  each_still P each t x =
      let was = length-take-le tail Q l in
      let is = length-take-le tail R m in
      let all = All-from_get_or P (take tail Q) 0
      (λ i y. rw (read Q tail i 0 (omega arith) (omega arith)) (each i (omega arith))) in
      subst P (read R tail t 0 x (omega arith))
      (All-get_or P (take tail R) t 0 (omega arith)
      (All-permutation P (take tail Q) (take tail R) same all))

  found_still : (q : ℕ) → (t : ℕ) × (t < tail) × (get_or Q t 0 ≡ q) →
      (t : ℕ) × (t < tail) × (get_or R t 0 ≡ q)
  found_still q w =
      let was = length-take-le tail Q l in
      let is = length-take-le tail R m in
      let x = w.1 in
      let there = subst (Contains (take tail Q)) (read Q tail w.0 0 x (omega arith) ∙ w.2)
      (Contains-get_or (take tail Q) w.0 0 (omega arith)) in
      let r = Contains-permutation (take tail Q) (take tail R) q same there in
      let y = r.1 in
      (r.0, omega arith, sym (read R tail r.0 q (omega arith) (omega arith)) ∙ r.2)

  once_still : ((s t : ℕ) → s < tail → t < tail → get_or Q s 0 ≡ get_or Q t 0 → s ≡ t) →
      (s t : ℕ) → s < t → t < tail → get_or R s 0 ≡ get_or R t 0 → ⊥
  once_still once s t x y e =
      let was = length-take-le tail Q l in
      let is = length-take-le tail R m in
      let apart = IsDistinct-from_apart eqb (take tail Q) (λ i j d u v.
      ne_eqb (get_or (take tail Q) i d) (get_or (take tail Q) j d) (λ f.
      let g = once i j (omega arith) (omega arith)
      (sym (read Q tail i d (omega arith) (omega arith))
      ∙ (f ∙ read Q tail j d (omega arith) (omega arith))) in
      omega (arith, g, u))) in
      let differ = apart_from_distinct eqb (take tail R) s t 0
      (IsDistinct-IsPermutation eqb nat_eq_equiv.symm (take tail Q) (take tail R) same apart) x
      (omega arith) in
      let a = read R tail s 0 (omega arith) (omega arith) in
      let b = read R tail t 0 y (omega arith) in
      false≢true (sym differ ∙ eq-eqb _ _ (a ∙ (e ∙ sym b)))

-- a queue with the same numbers, all of which have fewer plies than k
pub queue_still : {k : ℕ} {E : List ℕ} (Q R : List ℕ) {tail : ℕ} → Queue k tail E Q tail →
    length R ≡ length Q → IsPermutation (take tail Q) (take tail R) → Queue k tail E R tail
queue_still {k} {E} Q R {tail} u long same =
    let room = u.room in
    let l : tail ≤ length Q = omega arith in
    let m : tail ≤ length R = omega arith in
    let apart = once_still Q R tail l m same u.once in
    record {
      room = omega (arith, room, long);
      each = each_still Q R tail l m same (λ q. 2 ≤ get_or E q 0) u.each;
      old = each_still Q R tail l m same (λ q. get_or E q 0 < 2 + 2 * k) u.old;
      young = λ t a b. absurd (omega (arith, a, b));
      found = λ q h. found_still Q R tail l m same q (u.found q h);
      once = λ s t a b e. elim (cases_lt s t) [
        | inl x ↦ absurd (apart s t x b e)
        | inr x ↦ elim (cases_lt t s) [
          | inl y ↦ absurd (apart t s y a (sym e))
          | inr y ↦ omega (arith, x, y)
        ]
      ];
    }

-- the work, while the numbers from head on come in another order
work_still : {B : Shape} {side : Colour} {k : ℕ} {bar : ℕ → ℕ} {E C L : List ℕ} (Q R : List ℕ)
    (head tail : ℕ) → Work B side k tail bar (λ _ q. done_by Q head q) E C L Q tail → head ≤ tail →
    length R ≡ length Q → ((t : ℕ) → t < head → get_or R t 0 ≡ get_or Q t 0) →
    IsPermutation (slice_range Q head tail) (slice_range R head tail) →
    Work B side k tail bar (λ _ q. done_by R head q) E C L R tail
work_still {E = E} {C = C} {L = L} Q R head tail w h long front part =
    let room = w.queue.room in
    work_done
    (record {
      state = w.state;
      queue = queue_still Q R w.queue long
          (same_numbers Q R head tail h (omega (arith, room)) long front part);
      sized = record {
        codes = w.sized.codes;
        counts = w.sized.counts;
        later = w.sized.later;
        queue = long ∙ w.sized.queue;
      };
      passes = w.passes;
      within = w.within;
      ended = w.ended;
    })
    (λ i q. done_by_same Q R head q front)

-- the tally when a pass begins, while the numbers from head on come in another order
pub in_pass_still : {arena : Arena Step ℕ Value} {size : ℕ} {side : Colour} {k : ℕ} (head : ℕ)
    (t u : Tally) → InPass arena size side k 0 t.tail (done_in t.queue head) t → head ≤ t.tail →
    ChangesOnlyFrom head t u → IsPermutation (queued_from t head) (queued_from u head) →
    InPass arena size side k 0 t.tail (done_in u.queue head) u
in_pass_still {arena} {size} {side} {k} head t u w h rest same =
    subst (InPass arena size side k 0 t.tail (done_in u.queue head)) (sym rest.lists)
    (work_still t.queue u.queue head t.tail w h rest.size (λ j l. rest.places j (inl l))
    (subst (λ (m : ℕ). IsPermutation (queued_from t head) (slice_range u.queue head m))
    (ap (λ (v : Tally). v.tail) rest.lists) same))
