-- All that the arms of a number say.
use Rattle.std.proofs.Common.{◌≡◌, ℕ, ◌+◌, ◌<◌, ◌≤◌, ◌⊎◌, Bool, true, false, not, ◌&&◌, max, List, [], ◌∷◌, refl, sym, ◌∙◌, ap, ap₂, subst, inl, inr, arith}
use Rattle.std.proofs.lemmas.Bool.{cases_lt, and_left, false≢true, true≢false}
use Rattle.frz_graph.specs.EntryCodes.{value_code}
use Rattle.frz_retro.specs.Kinds.{is_of}
use Rattle.frz_retro.specs.Shape.{In, counts_for, how_many, lesser}
use Rattle.frz_retro.specs.State.{is_off, waits}
use Rattle.frz_retro.specs.Beginning.{after_arm, start_of}
use Rattle.frz_board.specs.declared.man.Colour.{Colour}
use Rattle.frz_sets.specs.declared.exit.Value.{Value}
use Rattle.frz_retro.specs.Graphs.{Next, Arm}
use Rattle.frz_arena.specs.declared.arm.Next.TheVariants.{Inside, Outside}
use Rattle.frz_retro.specs.declared.start.Start.{Start}
use Rattle.frz_retro.proofs.CodeFacts.{of_low, of_one, of_not}
use Rattle.frz_retro.proofs.Counting.{one}
use Rattle.frz_retro.proofs.Lesser.{lesser_cases, lesser_le, lesser_le_right, lesser_pos}
use Rattle.frz_retro.proofs.Ways.{Way, way, Skips, Enters, Decides, Settles, Holds}

-- Each counted exit of a kind has a code within the bound c, which is one of these codes, or 0.
pub record Bounds (kind own : Bool) (side : Colour) (arms : List Arm) (Within : ℕ → Type 0)
    (c : ℕ) : Type 0 where
  pub within : (a : Arm) → In a arms → counts_for own a ≡ true → (v : Value) → a.next ≡ Outside v →
      is_of kind (value_code side v) ≡ true → Within (value_code side v)
  pub met : (c ≡ 0)
      ⊎ ((a : Arm) × (v : Value) × In a arms × (counts_for own a ≡ true) × (a.next ≡ Outside v)
      × (is_of kind (value_code side v) ≡ true) × (c ≡ value_code side v))

abbrev pub Least : Bool → Colour → List Arm → ℕ → Type 0
Least own side arms c = Bounds own own side arms (λ x. (0 < c) × (c ≤ x)) c

abbrev pub Most : Bool → Colour → List Arm → ℕ → Type 0
Most own side arms c = Bounds (not own) own side arms (λ x. x ≤ c) c

-- all that the arms say
pub record Says (own : Bool) (side : Colour) (arms : List Arm) (s : Start) : Type 0 where
  pub any : s.any ≡ true → (a : Arm) × In a arms × (counts_for own a ≡ true)
  pub none : s.any ≡ false → (a : Arm) → In a arms → counts_for own a ≡ false
  pub counter : s.count ≡ how_many (waits own (λ _. false) side []) arms
  pub least : Least own side arms s.least
  pub most : Most own side arms s.most

one_value : {n : Next} {v w : Value} → n ≡ Outside v → n ≡ Outside w → v ≡ w
one_value x y = cc

no_exit : {n : Next} {q : ℕ} {v : Value} → n ≡ Inside q → n ≡ Outside v → ⊥
no_exit x y = cc

-- an arm in front that is no counted exit of the kind
stays : {kind own : Bool} {side : Colour} {arms : List Arm} {a : Arm} {P : ℕ → Type 0} {c : ℕ} →
    Bounds kind own side arms P c →
    ((v : Value) → counts_for own a ≡ true → a.next ≡ Outside v
    → is_of kind (value_code side v) ≡ true → ⊥) → Bounds kind own side (a ∷ arms) P c
stays {own = own} h none = record {
  within = λ b i n v x k. elim i [
    | inl z ↦ absurd (none v (ap (counts_for own) z ∙ n) (ap (λ (y : Arm). y.next) z ∙ x) k)
    | inr j ↦ h.within b j n v x k
  ];
  met = elim h.met [ inl z ↦ inl z | inr m ↦ inr (m.0, m.1, inr m.2, m.3, m.4, m.5, m.6) ];
}

-- an exit of the deciding kind in front
lesser_least : {own : Bool} {side : Colour} {arms : List Arm} {a : Arm} {c : ℕ} (u : Value) →
    Least own side arms c → counts_for own a ≡ true → a.next ≡ Outside u →
    is_of own (value_code side u) ≡ true →
    Least own side (a ∷ arms) (lesser (value_code side u) c)
lesser_least {own} {side} {arms} {a} {c} u h counted n kind = record {
  within = λ b i cb v x k.
      let low = of_low own (value_code side u) kind in (
        lesser_pos (value_code side u) c (omega (arith, low)),
        elim i [
          | inl z ↦
              let e = ap (value_code side) (one_value n (ap (λ (y : Arm). y.next) z ∙ x)) in
              let l = lesser_le (value_code side u) c in
              omega (arith, l, e)
          | inr j ↦
              let r = h.within b j cb v x k in
              let l = lesser_le_right (value_code side u) c r.0 in
              omega (arith, l, r.1)
        ],
      );
  met = elim (lesser_cases (value_code side u) c) [
    | inl e ↦ inr (a, u, inl refl, counted, n, kind, e)
    | inr e ↦ elim h.met [
      | inl z ↦ let p = e.1 in absurd (omega (arith, z, p))
      | inr m ↦ inr (m.0, m.1, inr m.2, m.3, m.4, m.5, e.0 ∙ m.6)
    ]
  ];
}

-- an exit of the settling kind in front
greater_most : {own : Bool} {side : Colour} {arms : List Arm} {a : Arm} {c : ℕ} (u : Value) →
    Most own side arms c → counts_for own a ≡ true → a.next ≡ Outside u →
    is_of (not own) (value_code side u) ≡ true →
    Most own side (a ∷ arms) (max (value_code side u) c)
greater_most {own} {side} {arms} {a} {c} u h counted n kind = record {
  within = λ b i cb v x k. elim i [
    | inl z ↦
        let e = ap (value_code side) (one_value n (ap (λ (y : Arm). y.next) z ∙ x)) in
        omega (arith, e)
    | inr j ↦ let l = h.within b j cb v x k in omega (arith, l)
  ];
  met = elim (cases_lt (value_code side u) c) [
    | inl l ↦ elim h.met [
      | inl z ↦ absurd (omega (arith, z, l))
      | inr m ↦ let e = m.6 in inr (m.0, m.1, inr m.2, m.3, m.4, m.5, omega (arith, e, l))
    ]
    | inr l ↦ inr (a, u, inl refl, counted, n, kind, omega (arith, l))
  ];
}

-- a counted arm in front, off or not
counted_more : {own : Bool} {side : Colour} {arms : List Arm} {a : Arm} {s t : Start} {l m : ℕ}
    (off : Bool) → Says own side arms s → counts_for own a ≡ true →
    is_off own (λ _. false) side [] a.next ≡ off → t.any ≡ true →
    t.count ≡ s.count + one (not off) → t.least ≡ l → Least own side (a ∷ arms) l → t.most ≡ m →
    Most own side (a ∷ arms) m → Says own side (a ∷ arms) t
counted_more {own} {side} {arms} {a} off h c is any count is_least least is_most most = record {
  any = λ _. (a, inl refl, c);
  none = λ y. absurd (true≢false (sym any ∙ y));
  counter =
      let x = h.counter in
      let o = ap one (ap₂ (λ (x y : Bool). x && not y) c is) in
      omega (arith, x, o, count);
  least = subst (Least own side (a ∷ arms)) (sym is_least) least;
  most = subst (Most own side (a ∷ arms)) (sym is_most) most;
}

says_more : (own : Bool) (side : Colour) (arms : List Arm) (a : Arm) (s t : Start) →
    Says own side arms s → Way own side a s t → Says own side (a ∷ arms) t
says_more own side arms a s t h (Skips f e) =
    subst (λ (x : Start). Says own side (a ∷ arms) x) (sym e) (record {
      any = λ y. let w = h.any y in (w.0, inr w.1, w.2);
      none = λ y b i. elim i [ inl z ↦ sym (ap (counts_for own) z) ∙ f | inr j ↦ h.none y b j ];
      counter =
          let c = h.counter in
          let o = ap one (and_left (counts_for own a)
          (not (is_off own (λ _. false) side [] a.next)) f) in
          omega (arith, c, o);
      least = stays h.least (λ v c _ _. true≢false (sym c ∙ f));
      most = stays h.most (λ v c _ _. true≢false (sym c ∙ f));
    })
says_more own side arms a s t h (Enters q c n any count least most) =
    counted_more false h c (ap (is_off own (λ _. false) side []) n) any count
    least (stays h.least (λ v _ x _. no_exit n x)) most (stays h.most (λ v _ x _. no_exit n x))
says_more own side arms a s t h (Decides u c n kind any count least most) =
    counted_more false h c
    (ap (is_off own (λ _. false) side []) n ∙ of_not own (value_code side u) kind) any count
    least (lesser_least u h.least c n kind)
    most (stays h.most (λ v _ x k. of_one own (value_code side u) kind
    (ap (λ y. is_of (not own) (value_code side y)) (one_value n x) ∙ k)))
says_more own side arms a s t h (Settles u c n kind any count least most) =
    counted_more true h c (ap (is_off own (λ _. false) side []) n ∙ kind) any (omega (arith, count))
    least (stays h.least (λ v _ x k. of_one own (value_code side u)
    (ap (λ y. is_of own (value_code side y)) (one_value n x) ∙ k) kind))
    most (greater_most u h.most c n kind)
says_more own side arms a s t h (Holds u c n k1 k2 any count least most) =
    counted_more false h c (ap (is_off own (λ _. false) side []) n ∙ k2) any count
    least (stays h.least (λ v _ x k. true≢false (sym k
    ∙ (ap (λ y. is_of own (value_code side y)) (one_value x n) ∙ k1))))
    most (stays h.most (λ v _ x k. true≢false (sym k
    ∙ (ap (λ y. is_of (not own) (value_code side y)) (one_value x n) ∙ k2))))

pub says : (own : Bool) (side : Colour) (arms : List Arm)
    → Says own side arms (start_of own side arms)
says own side [] = record {
  any = λ y. absurd (false≢true y);
  none = λ y b i. absurd i;
  counter = refl;
  least = record { within = λ b i. absurd i; met = inl refl };
  most = record { within = λ b i. absurd i; met = inl refl };
}
says own side (a ∷ arms) =
    says_more own side arms a (start_of own side arms)
    (after_arm own side (start_of own side arms) a) (says own side arms)
    (way own side a (start_of own side arms))
