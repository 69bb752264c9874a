-- What an open number waits for, when it meets another.
use Rattle.std.proofs.Common.{◌≡◌, ◌≢◌, ℕ, ◌+◌, ◌*◌, ◌<◌, ◌≤◌, Bool, true, false, not, ◌&&◌, List, get_or, refl, sym, ◌∙◌, ap, inl, inr, arith}
use Rattle.std.proofs.lemmas.Bool.{cases_Bool, cases_eq, cases_lt, and_left, and_from, and_parts, not-true, true≢false}
use Rattle.frz_retro.specs.Kinds.{is_of}
use Rattle.frz_graph.specs.EntryCodes.{next_code, arm_code}
use Rattle.frz_retro.specs.Shape.{In, Apart, Differ, counts_for, how_many}
use Rattle.frz_retro.specs.State.{Exhausted, Held, is_off, waits, IsOpen}
use Rattle.frz_board.specs.declared.man.Colour.{Colour}
use Rattle.frz_arena.specs.declared.arm.Next.TheVariants.{Inside}
use Rattle.frz_retro.specs.Graphs.{Arm}
use Rattle.frz_retro.proofs.CodeFacts.{of_low, of_some, of_more, of_order}
use Rattle.frz_retro.proofs.Counting.{one, count_some, only_arm, count_change, waits_same}
use Rattle.frz_retro.proofs.Choices.{all_off, next_cases, no_deciding, not_settling}

-- how the counter changes when a number meets q, which then is done
pub counter_change : (own : Bool) (side : Colour) (arms : List Arm) (d e : ℕ → Bool) (E : List ℕ)
    (a : Arm) (q : ℕ) → Apart Differ arms → In a arms → a.next ≡ Inside q →
    ((p : ℕ) → p ≢ q → e p ≡ d p) →
    how_many (waits own d side E) arms + one (waits own e side E a) ≡ how_many (waits own e side E)
    arms + one (waits own d side E a)
counter_change own side arms d e E a q apart i n h =
    count_change q (waits own d side E) (waits own e side E) arms a apart i n
    (λ b no. waits_same own d e side E E b (λ p m. (h p (λ s. no (m ∙ ap Inside s)), λ _. refl)))

-- one less where a counted arm to one of the settling kind is met
pub one_less : (own : Bool) (side : Colour) (arms : List Arm) (d e : ℕ → Bool) (E : List ℕ)
    (a : Arm) (q : ℕ) → Apart Differ arms → In a arms → a.next ≡ Inside q →
    ((p : ℕ) → p ≢ q → e p ≡ d p) → counts_for own a ≡ true → is_of (not own)
    (get_or E q 0) ≡ true → d q ≡ false → e q ≡ true →
    how_many (waits own d side E) arms ≡ how_many (waits own e side E) arms + 1
one_less own side arms d e E a q apart i n h c kind before after =
    let change = counter_change own side arms d e E a q apart i n h in
    let was : waits own d side E a ≡ true = and_from (counts_for own a)
    (not (is_off own d side E a.next)) c
    (ap not (ap (is_off own d side E) n ∙ and_left (d q) (is_of (not own) (get_or E q 0))
    before)) in
    let now : waits own e side E a ≡ false = ap (λ (b : Bool). counts_for own a && not b)
    (ap (is_off own e side E) n ∙ and_from (e q) (is_of (not own) (get_or E q 0)) after kind)
    ∙ and_false (counts_for own a) in
    let x = ap one was in let y = ap one now in omega (arith, change, x, y)
  where
    and_false : (b : Bool) → (b && false) ≡ false
    and_false true = refl
    and_false false = refl

-- as many where the arm doesn't count
pub none_less : (own : Bool) (side : Colour) (arms : List Arm) (d e : ℕ → Bool) (E : List ℕ)
    (a : Arm) (q : ℕ) → Apart Differ arms → In a arms → a.next ≡ Inside q →
    ((p : ℕ) → p ≢ q → e p ≡ d p) → counts_for own a ≡ false →
    how_many (waits own d side E) arms ≡ how_many (waits own e side E) arms
none_less own side arms d e E a q apart i n h c =
    let change = counter_change own side arms d e E a q apart i n h in
    let was : waits own d side E a ≡ false = and_left (counts_for own a)
    (not (is_off own d side E a.next)) c in
    let now : waits own e side E a ≡ false = and_left (counts_for own a)
    (not (is_off own e side E a.next)) c in
    let x = ap one was in let y = ap one now in omega (arith, change, x, y)

-- the last arm that a number waited for
pub exhausted_by : {own : Bool} {side : Colour} {arms : List Arm} {d : ℕ → Bool} {bar : ℕ}
    {E : List ℕ} {count later : ℕ} (e : ℕ → Bool) (k : ℕ) (a : Arm) (q : ℕ) →
    IsOpen own side arms d bar E count later → Apart Differ arms → In a arms →
    counts_for own a ≡ true → a.next ≡ Inside q → ((p : ℕ) → p ≢ q → e p ≡ d p) →
    is_of (not own) (get_or E q 0) ≡ true → d q ≡ false → e q ≡ true →
    ((p : ℕ) → e p ≡ true → get_or E p 0 < 2 + 2 * k) → 2 * k ≤ get_or E q 0 → count ≡ 1 →
    later ≤ get_or E q 0 + 2 → Exhausted own (arm_code side E) arms (get_or E q 0 + 2)
exhausted_by {own} {side} {arms} {d} {bar} {E} e k a q o apart i c n h kind before after low high
    last short =
    let less = one_less own side arms d e E a q apart i n h c kind before after in
    let counter = o.counter in
    record {
      most = get_or E q 0;
      each = all_off e E (get_or E q 0) k o.exits
          (omega (arith, less, counter, last)) low high kind short;
      reached = inr (a, i, c, ap (next_code side E) n);
      code = refl;
    }

-- a number that has met one that doesn't settle it stays open
pub met_open : {own : Bool} {side : Colour} {arms : List Arm} {d : ℕ → Bool} {bar : ℕ} {E : List ℕ}
    {count later : ℕ} (e : ℕ → Bool) (k : ℕ) (a : Arm) (q : ℕ) →
    IsOpen own side arms d bar E count later → Apart Differ arms → In a arms →
    counts_for own a ≡ true → a.next ≡ Inside q → ((p : ℕ) → p ≢ q → e p ≡ d p) →
    is_of (not own) (get_or E q 0) ≡ true → d q ≡ false → e q ≡ true → 2 * k ≤ get_or E q 0 →
    bar ≤ 4 + 2 * k → (rest : ℕ) → count ≡ rest + 1 → (rest ≡ 0 → get_or E q 0 + 2 < later) →
    IsOpen own side arms e bar E rest later
met_open {own} {side} {arms} {d} {bar} {E} {count} {later} e k a q o apart i c n h kind before after
    high bound rest
    sum late =
    let less = one_less own side arms d e E a q apart i n h c kind before after in
    let counter = o.counter in
    let left : rest ≡ how_many (waits own e side E) arms = omega (arith, less, counter, sum) in
    record {
      counter = left;
      undecided = λ b j cb p m t. elim (cases_eq p q) [
        | inl s ↦ elim (cases_Bool (is_of own (get_or E p 0))) [
          | inl y ↦ absurd
              (not_settling own (get_or E q 0) kind
              (sym (ap (λ (x : ℕ). is_of own (get_or E x 0)) s) ∙ y))
          | inr f ↦ f
        ]
        | inr s ↦ o.undecided b j cb p m (sym (h p s) ∙ t)
      ];
      exits = o.exits;
      due = o.due;
      last = λ z. elim (cases_lt later (4 + 2 * k)) [
        | inl lt ↦ let l = late z in elim (of_some own later (omega (arith, l))) [
          | inl y ↦ absurd (no_deciding e E o.exits (sym left ∙ z) y)
          | inr y ↦
              let x = of_order (not own) (k + 1) later (get_or E q 0 + 2) y
              (of_more (not own) (get_or E q 0) kind) (omega (arith, lt))
              (omega (arith, high)) in
              absurd (omega (arith, x, l))
        ]
        | inr ge ↦ omega (arith, ge, bound)
      ];
    }

-- nor does an arm that doesn't count
pub uncounted_open : {own : Bool} {side : Colour} {arms : List Arm} {d : ℕ → Bool} {bar : ℕ}
    {E : List ℕ} {count later : ℕ} (e : ℕ → Bool) (a : Arm) (q : ℕ) →
    IsOpen own side arms d bar E count later → Apart Differ arms → In a arms →
    counts_for own a ≡ false → a.next ≡ Inside q → ((p : ℕ) → p ≢ q → e p ≡ d p) →
    IsOpen own side arms e bar E count later
uncounted_open {own} {side} {arms} {d} {bar} {E} e a q o apart i c n h = record {
  counter = o.counter ∙ none_less own side arms d e E a q apart i n h c;
  undecided = λ b j cb p m t. elim (cases_eq p q) [
    | inl s ↦
        absurd (true≢false
        (sym cb ∙ (ap (counts_for own) (only_arm q arms b a apart j i (m ∙ ap Inside s) n) ∙ c)))
    | inr s ↦ o.undecided b j cb p m (sym (h p s) ∙ t)
  ];
  exits = o.exits;
  due = o.due;
  last = o.last;
}

-- At the end an open number holds.
pub open_holds : {own : Bool} {side : Colour} {arms : List Arm} {d : ℕ → Bool} {bar : ℕ}
    {E : List ℕ} {count later : ℕ} → IsOpen own side arms d bar E count later →
    ((q : ℕ) → 2 ≤ get_or E q 0 → d q ≡ true) → later < bar → Held own (arm_code side E) arms
open_holds {own} {side} {arms} {d} {bar} {E} o done short =
    let none : (a : Arm) → In a arms → counts_for own a ≡ true
    → is_of own (arm_code side E a) ≡ false =
    λ a i c. elim (cases_Bool (is_of own (arm_code side E a))) [
      | inr f ↦ f
      | inl t ↦ elim (next_cases a.next) [
        | inl q ↦
            let e = sym (ap (λ n. is_of own (next_code side E n)) q.1) ∙ t in
            absurd (true≢false
            (sym e ∙ o.undecided a i c q.0 q.1 (done q.0 (of_low own (get_or E q.0 0) e))))
        | inr v ↦
            let e = sym (ap (λ n. is_of own (next_code side E n)) v.1) ∙ t in
            let x = o.due (o.exits.deciding a i c v.0 v.1 e).0 in
            absurd (omega (arith, x, short))
      ]
    ] in
    elim (count_some (waits own d side E) arms) [
      | inl z ↦ let x = o.last (o.counter ∙ z) in absurd (omega (arith, x, short))
      | inr w ↦
          let parts = and_parts (counts_for own w.0) (not (is_off own d side E w.0.next)) w.2 in
          let on = not-true (is_off own d side E w.0.next) parts.1 in
          record {
            undecided = none;
            arm = w.0;
            there = w.1;
            counted = parts.0;
            kind = (elim (cases_Bool (is_of (not own) (arm_code side E w.0))) [
              | inr f ↦ f
              | inl t ↦ elim (next_cases w.0.next) [
                | inl q ↦ let e = sym (ap (λ n. is_of (not own) (next_code side E n)) q.1) ∙ t in
                    absurd (true≢false
                    (sym (and_from (d q.0) (is_of (not own) (get_or E q.0 0))
                    (done q.0 (of_low (not own) (get_or E q.0 0) e)) e)
                    ∙ (sym (ap (is_off own d side E) q.1) ∙ on)))
                | inr v ↦
                    let e = sym (ap (λ n. is_of (not own) (next_code side E n)) v.1) ∙ t in
                    absurd (true≢false (sym e ∙ (sym (ap (is_off own d side E) v.1) ∙ on)))
              ]
            ]);
          }
    ]
