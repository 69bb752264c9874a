-- What settles an open number.
use Rattle.std.proofs.Common.{◌≡◌, ℕ, ◌+◌, ◌*◌, ◌<◌, ◌≤◌, ◌⊎◌, Bool, true, false, not, List, get_or, refl, sym, ◌∙◌, ap, subst, inl, inr, arith}
use Rattle.std.proofs.lemmas.Bool.{cases_Bool, and_from, and_parts, and_cases, not-false, true≢false}
use Rattle.frz_graph.specs.EntryCodes.{value_code, next_code, arm_code}
use Rattle.frz_retro.specs.Kinds.{is_of}
use Rattle.frz_retro.specs.Shape.{In, counts_for, how_many}
use Rattle.frz_retro.specs.State.{Decided, Exhausted, IsLater, is_off, waits, IsOpen}
use Rattle.frz_board.specs.declared.man.Colour.{Colour}
use Rattle.frz_sets.specs.declared.exit.Value.{Value}
use Rattle.frz_retro.specs.Graphs.{Next, Arm}
use Rattle.frz_arena.specs.declared.arm.Next.TheVariants.{Inside, Outside}
use Rattle.frz_retro.proofs.CodeFacts.{of_low, of_one, of_not, of_some, of_more, of_order}
use Rattle.frz_retro.proofs.Counting.{count_zero}

pub next_cases : (n : Next) → ((q : ℕ) × (n ≡ Inside q)) ⊎ ((v : Value) × (n ≡ Outside v))
next_cases (Inside q) = inl (q, refl)
next_cases (Outside v) = inr (v, refl)

-- not of the kind, from being of the other
pub not_settling : (own : Bool) (c : ℕ) → is_of (not own) c ≡ true → is_of own c ≡ true → ⊥
not_settling own c h e = of_one own c e h

-- what the exits give is of the kind of an exit
pub later_kind : {own : Bool} {side : Colour} {arms : List Arm} {later : ℕ} (w : Bool) →
    IsLater own side arms later → is_of w later ≡ true →
    (a : Arm) × (v : Value) × In a arms × (counts_for own a ≡ true) × (a.next ≡ Outside v)
    × (is_of w (value_code side v) ≡ true) × (later ≡ value_code side v + 2)
later_kind {own} {side} {arms} {later} w l h = elim l.met [
  | inl z ↦ let low = of_low w later h in absurd (omega (arith, z, low))
  | inr m ↦ elim (of_some w (value_code side m.1) m.5) [
    | inl k ↦ (m.0, m.1, m.2, m.3, m.4, k, m.6)
    | inr k ↦
        absurd (of_one w later h (ap (is_of (not w)) m.6 ∙ of_more (not w) (value_code side m.1) k))
  ]
]

-- an exit of the deciding kind waits for good
waits_exit : (own : Bool) (d : ℕ → Bool) (side : Colour) (E : List ℕ) (a : Arm) (v : Value) →
    counts_for own a ≡ true → a.next ≡ Outside v → is_of own (value_code side v) ≡ true →
    waits own d side E a ≡ true
waits_exit own d side E a v c n k =
    and_from (counts_for own a) (not (is_off own d side E a.next)) c
    (ap not (ap (is_off own d side E) n ∙ of_not own (value_code side v) k))

-- with nothing to wait for, no exit decides
pub no_deciding : {own : Bool} {side : Colour} {arms : List Arm} {later : ℕ} (d : ℕ → Bool)
    (E : List ℕ) → IsLater own side arms later → how_many (waits own d side E) arms ≡ 0 →
    is_of own later ≡ true → ⊥
no_deciding {own} {side} {arms} d E l z h =
    let m = later_kind own l h in
    true≢false (sym (waits_exit own d side E m.0 m.1 m.3 m.4 m.5) ∙ count_zero (waits own d side E)
    arms m.0 z m.2)

-- a counted arm that doesn't wait is off
pub off_from : (own : Bool) (d : ℕ → Bool) (side : Colour) (E : List ℕ) (a : Arm) →
    counts_for own a ≡ true → waits own d side E a ≡ false → is_off own d side E a.next ≡ true
off_from own d side E a c w =
    elim (and_cases (counts_for own a) (not (is_off own d side E a.next)) w)
    [ inl e ↦ absurd (true≢false (sym c ∙ e)) | inr e ↦ not-false (is_off own d side E a.next) e ]

-- where no arm waits: each is of the settling kind, inside ones done, exits within what the exits
-- give
pub all_off : {own : Bool} {side : Colour} {arms : List Arm} {later : ℕ} (d : ℕ → Bool) (E : List ℕ)
    (m k : ℕ) → IsLater own side arms later → how_many (waits own d side E) arms ≡ 0 →
    ((p : ℕ) → d p ≡ true → get_or E p 0 < 2 + 2 * k) → 2 * k ≤ m → is_of (not own) m ≡ true →
    later ≤ m + 2 → (b : Arm) → In b arms → counts_for own b ≡ true →
    (is_of (not own) (arm_code side E b) ≡ true) × (arm_code side E b ≤ m)
all_off {own} {side} {arms} d E m k l z low high kind short b i c =
    let off = off_from own d side E b c (count_zero (waits own d side E) arms b z i) in
    let P : Next → Type 0 = λ n. (is_of (not own) (next_code side E n) ≡ true)
    × (next_code side E n ≤ m) in
    elim (next_cases b.next) [
      | inl q ↦ subst P (sym q.1)
          (let parts = and_parts (d q.0) (is_of (not own) (get_or E q.0 0))
          (sym (ap (is_off own d side E) q.1) ∙ off) in
          (parts.1, of_order (not own) k (get_or E q.0 0) m parts.1 kind (low q.0 parts.0) high))
      | inr v ↦ subst P (sym v.1) (let kind_v = sym (ap (is_off own d side E) v.1) ∙ off in (
        kind_v,
        elim (l.settling b i c v.0 v.1 kind_v) [
          | inl e ↦ absurd (no_deciding d E l z e)
          | inr e ↦ omega (arith, e, short)
        ],
      ))
    ]

-- where inside arms that are not done are no earlier than pass k, an arm of the deciding kind and
-- plies below k + 1 is the least
pub least_of_all : {own : Bool} {side : Colour} {arms : List Arm} {d : ℕ → Bool} {bar : ℕ}
    {E : List ℕ} {count later : ℕ} (m k : ℕ) → IsOpen own side arms d bar E count later →
    ((p : ℕ) → d p ≡ false → 2 ≤ get_or E p 0 → 2 * k ≤ get_or E p 0) → 2 + 2 * k ≤ bar →
    is_of own m ≡ true → m < 2 + 2 * k → (b : Arm) → In b arms → counts_for own b ≡ true →
    is_of own (arm_code side E b) ≡ true → m ≤ arm_code side E b
least_of_all {own} {side} {arms} {d} {bar} {E} m k o high above kind short b i c e =
    let P : Next → Type 0 = λ n. m ≤ next_code side E n in
    elim (next_cases b.next) [
      | inl q ↦ subst P (sym q.1)
          (let e' = sym (ap (λ n. is_of own (next_code side E n)) q.1) ∙ e in
          elim (cases_Bool (d q.0)) [
            | inl t ↦ absurd (true≢false (sym e' ∙ o.undecided b i c q.0 q.1 t))
            | inr f ↦
                of_order own k m (get_or E q.0 0) kind e' short
                (high q.0 f (of_low own (get_or E q.0 0) e'))
          ])
      | inr v ↦ subst P (sym v.1)
          (let e' = sym (ap (λ n. is_of own (next_code side E n)) v.1) ∙ e in
          let x = o.exits.deciding b i c v.0 v.1 e' in let y = o.due x.0 in
          of_order own k m (value_code side v.0) kind e' short (omega (arith, x.1, y, above)))
    ]

-- a number that meets one of the deciding kind
pub decided_by : {own : Bool} {side : Colour} {arms : List Arm} {d : ℕ → Bool} {bar : ℕ}
    {E : List ℕ} {count later : ℕ} (k : ℕ) (a : Arm) (q : ℕ) →
    IsOpen own side arms d bar E count later →
    ((p : ℕ) → d p ≡ false → 2 ≤ get_or E p 0 → 2 * k ≤ get_or E p 0) → 2 + 2 * k ≤ bar →
    In a arms → counts_for own a ≡ true → a.next ≡ Inside q → is_of own (get_or E q 0) ≡ true →
    get_or E q 0 < 2 + 2 * k → Decided own (arm_code side E) arms (get_or E q 0 + 2)
decided_by {own} {side} {arms} {d} {bar} {E} k a q o high above i c n kind short =
    let same : get_or E q 0 ≡ arm_code side E a = sym (ap (next_code side E) n) in
    record {
      arm = a;
      there = i;
      counted = c;
      kind = sym (ap (is_of own) same) ∙ kind;
      least = λ b j cb e.
          let l = least_of_all (get_or E q 0) k o high above kind short b j cb e in
          omega (arith, l, same);
      code = ap (λ (x : ℕ). x + 2) same;
    }

-- a number whose due pass has come
pub due_decided : {own : Bool} {side : Colour} {arms : List Arm} {d : ℕ → Bool} {bar : ℕ}
    {E : List ℕ} {count later : ℕ} (k : ℕ) → IsOpen own side arms d bar E count later →
    ((p : ℕ) → d p ≡ false → 2 ≤ get_or E p 0 → 2 * k ≤ get_or E p 0) → 2 + 2 * k ≤ bar →
    is_of own later ≡ true → later < 4 + 2 * k → Decided own (arm_code side E) arms later
due_decided {own} {side} {arms} {d} {bar} {E} k o high above kind short =
    let m = later_kind own o.exits kind in
    let same : value_code side m.1 ≡ arm_code side E m.0 = sym (ap (next_code side E) m.4) in
    let code = m.6 in
    record {
      arm = m.0;
      there = m.2;
      counted = m.3;
      kind = sym (ap (is_of own) same) ∙ m.5;
      least = λ b j cb e.
          let l = least_of_all (value_code side m.1) k o high above m.5
          (omega (arith, code, short)) b j cb e in
          omega (arith, l, same);
      code = m.6 ∙ ap (λ (x : ℕ). x + 2) same;
    }

pub due_exhausted : {own : Bool} {side : Colour} {arms : List Arm} {d : ℕ → Bool} {bar : ℕ}
    {E : List ℕ} {count later : ℕ} (k : ℕ) → IsOpen own side arms d bar E count later →
    ((p : ℕ) → d p ≡ true → get_or E p 0 < 2 + 2 * k) → count ≡ 0 → is_of (not own) later ≡ true →
    2 + 2 * k ≤ later → Exhausted own (arm_code side E) arms later
due_exhausted {own} {side} {arms} {d} {bar} {E} k o low zero kind long =
    let m = later_kind (not own) o.exits kind in
    let code = m.6 in
    record {
      most = value_code side m.1;
      each = all_off d E (value_code side m.1) k o.exits (sym o.counter ∙ zero) low
          (omega (arith, code, long)) m.5 (omega (arith, code));
      reached = inr (m.0, m.2, m.3, ap (next_code side E) m.4);
      code = m.6;
    }
