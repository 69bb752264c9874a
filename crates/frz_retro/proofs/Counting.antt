-- A counter against a list of arms.
use Rattle.std.proofs.Common.{◌≡◌, ℕ, ◌+◌, ◌⊎◌, Bool, true, false, not, cond, ◌&&◌, List, [], ◌∷◌, get_or, refl, sym, ◌∙◌, ap, ap₂, inl, inr, arith}
use Rattle.std.proofs.lemmas.Bool.{cases_Bool, and_left}
use Rattle.frz_retro.specs.Kinds.{is_of}
use Rattle.frz_retro.specs.Shape.{In, Apart, Differ, counts_for, how_many}
use Rattle.frz_retro.specs.State.{is_off, waits}
use Rattle.frz_board.specs.declared.man.Colour.{Colour}
use Rattle.frz_retro.specs.Graphs.{Next}
use Rattle.frz_arena.specs.declared.arm.Next.TheVariants.{Inside, Outside}
use Rattle.frz_retro.specs.Graphs.{Arm}

abbrev pub one : Bool → ℕ
one b = cond b 1 0

-- two tests that agree on each arm count alike
pub count_same : (p r : Arm → Bool) (arms : List Arm) → ((a : Arm) → In a arms → r a ≡ p a) →
    how_many r arms ≡ how_many p arms
count_same p r [] h = refl
count_same p r (a ∷ arms) h =
    ap₂ (λ (x y : ℕ). x + y) (ap one (h a (inl refl))) (count_same p r arms (λ b i. h b (inr i)))

-- where nothing is counted, no arm passes
pub count_zero : (p : Arm → Bool) (arms : List Arm) (a : Arm) → how_many p arms ≡ 0 → In a arms →
    p a ≡ false
count_zero p [] a z h = absurd h
count_zero p (b ∷ arms) a z (inl s) =
    elim (cases_Bool (p b)) [
      | inl e ↦ absurd (omega (arith, z, ap one e))
      | inr e ↦ sym (ap p s)
          ∙ e
    ]
count_zero p (b ∷ arms) a z (inr t) = count_zero p arms a (omega (arith, z)) t

-- where something is counted, some arm passes
pub count_some : (p : Arm → Bool) (arms : List Arm) →
    (how_many p arms ≡ 0) ⊎ ((a : Arm) × In a arms × (p a ≡ true))
count_some p [] = inl refl
count_some p (b ∷ arms) = elim (cases_Bool (p b)) [
  | inl e ↦ inr (b, inl refl, e)
  | inr e ↦ elim (count_some p arms)
      [ inl z ↦ inl (omega (arith, z, ap one e)) | inr w ↦ inr (w.0, inr w.1, w.2) ]
]

-- the arm that leads to q is one
pub only_arm : (q : ℕ) (arms : List Arm) (a b : Arm) → Apart Differ arms → In a arms → In b arms →
    a.next ≡ Inside q → b.next ≡ Inside q → a ≡ b
only_arm q [] a b d i j x y = absurd i
only_arm q (c ∷ arms) a b d (inl s) (inl t) x y = sym s ∙ t
only_arm q (c ∷ arms) a b d (inl s) (inr t) x y =
    absurd (d.0 b t q (ap (λ (z : Arm). z.next) s ∙ x) y)
only_arm q (c ∷ arms) a b d (inr s) (inl t) x y =
    absurd (d.0 a s q (ap (λ (z : Arm). z.next) t ∙ y) x)
only_arm q (c ∷ arms) a b d (inr s) (inr t) x y = only_arm q arms a b d.1 s t x y

-- two tests that differ at most at the one arm to q
pub count_change : (q : ℕ) (p r : Arm → Bool) (arms : List Arm) (a : Arm) → Apart Differ arms →
    In a arms → a.next ≡ Inside q → ((b : Arm) → (b.next ≡ Inside q → ⊥) → r b ≡ p b) →
    how_many p arms + cond (r a) 1 0 ≡ how_many r arms + cond (p a) 1 0
count_change q p r [] a d i x h = absurd i
count_change q p r (c ∷ arms) a d (inl s) x h =
    let rest = count_same p r arms
    (λ b j. h b (λ y. d.0 b j q (ap (λ (z : Arm). z.next) s ∙ x) y)) in
    let was = ap (λ (z : Arm). one (p z)) s in
    let now = ap (λ (z : Arm). one (r z)) s in
    omega (arith, rest, was, now)
count_change q p r (c ∷ arms) a d (inr t) x h =
    let rest = count_change q p r arms a d.1 t x h in
    let was = ap one (h c (λ y. d.0 a t q y x)) in
    omega (arith, rest, was)

-- what is off depends on what is done and on its entries
pub off_same : (own : Bool) (d e : ℕ → Bool) (side : Colour) (E F : List ℕ) (n : Next) →
    ((q : ℕ) → n ≡ Inside q → (e q ≡ d q) × (d q ≡ true → get_or F q 0 ≡ get_or E q 0)) →
    is_off own e side F n ≡ is_off own d side E n
off_same own d e side E F (Outside v) h = refl
off_same own d e side E F (Inside q) h =
    let g = h q refl in
    elim (cases_Bool (d q)) [
      | inl t ↦ ap₂ (λ (b : Bool) (x : ℕ). b && is_of (not own) x) g.0 (g.1 t)
      | inr f ↦
          and_left (e q) (is_of (not own) (get_or F q 0)) (g.0 ∙ f)
          ∙ sym (and_left (d q) (is_of (not own) (get_or E q 0)) f)
    ]

pub waits_same : (own : Bool) (d e : ℕ → Bool) (side : Colour) (E F : List ℕ) (a : Arm) →
    ((q : ℕ) → a.next ≡ Inside q → (e q ≡ d q) × (d q ≡ true → get_or F q 0 ≡ get_or E q 0)) →
    waits own e side F a ≡ waits own d side E a
waits_same own d e side E F a h =
    ap (λ (b : Bool). counts_for own a && not b) (off_same own d e side E F a.next h)
