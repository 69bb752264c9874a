-- The first element that passes a test.
use Rattle.std.proofs.Common.{◌≡◌, ◌<◌, ℕ, zero, suc, inl, inr, Bool, true, false, List, [], ◌∷◌, Some, refl, subst, arith}
use Rattle.std.specs.Prelude.{slice_get}
use Rattle.std.specs.List.{Contains}
use Rattle.std.proofs.lemmas.Bool.{cases_lt, cases_Bool}
use Rattle.std.proofs.lemmas.Option.{slice_get_within, get_or_from_slice_get}
use Rattle.frz_arena.specs.Chosen.{IsFirst, IsFound}
use Rattle.frz_arena.proofs.Lists.Members.{none_in_empty, in_cases}

pub at_in : {X : Type 0} (xs : List X) (i : ℕ) (x : X) → slice_get xs i ≡ Some x → Contains xs x
at_in xs i x e = (i, slice_get_within xs i x e, get_or_from_slice_get xs i x x e)

pub one_at : {X : Type 0} (xs : List X) (i : ℕ) (x y : X) → slice_get xs i ≡ Some x →
    slice_get xs i ≡ Some y → x ≡ y
one_at xs i x y e f = cc

not_before : {X : Type 0} {test : X → Bool} {xs : List X} (i j : ℕ) (x y : X) → i < j →
    IsFirst test xs i x → IsFirst test xs j y → ⊥
not_before i j x y l a b = let f = b.before i x l a.here in let t = a.passes in cc

pub one_first : {X : Type 0} {test : X → Bool} {xs : List X} (i j : ℕ) (x y : X) →
    IsFirst test xs i x → IsFirst test xs j y → (i ≡ j) × (x ≡ y)
one_first {xs = xs} i j x y a b =
    elim (cases_lt i j) [
      | inl l ↦ absurd (not_before i j x y l a b)
      | inr l ↦ elim (cases_lt j i) [
        | inl m ↦ absurd (not_before j i y x m b a)
        | inr m ↦ (let e : i ≡ j = omega (arith, l, m) in
            (e, one_at xs j x y (subst (λ k. slice_get xs k ≡ Some x) e a.here) b.here))
      ]
    ]

earlier_fail : {X : Type 0} (test : X → Bool) (y : X) (ys : List X) → test y ≡ false →
    (i : ℕ) (x : X) → IsFirst test ys i x → (j : ℕ) (z : X) → j < suc i →
    slice_get (y ∷ ys) j ≡ Some z → test z ≡ false
earlier_fail test y ys f i x a zero z l e = let k : y ≡ z = cc in subst (λ w. test w ≡ false) k f
earlier_fail test y ys f i x a (suc j) z l e = a.before j z (omega (arith, l)) e

first_later : {X : Type 0} (test : X → Bool) (y : X) (ys : List X) → test y ≡ false →
    (i : ℕ) (x : X) → IsFirst test ys i x → IsFirst test (y ∷ ys) (suc i) x
first_later {X} test y ys f i x a =
    let before : (j : ℕ) (z : X) → j < suc i → slice_get (y ∷ ys) j ≡ Some z
    → test z ≡ false = earlier_fail test y ys f i x a in
    record { here = a.here; passes = a.passes; before = before }

-- where some element passes, there is a first one
pub first_there : {X : Type 0} (test : X → Bool) (xs : List X) (x : X) → Contains xs x →
    test x ≡ true → (i : ℕ) × (y : X) × IsFirst test xs i y
first_there test [] x h t = absurd (none_in_empty x h)
first_there test (y ∷ ys) x h t =
    elim (cases_Bool (test y)) [
      | inl t1 ↦ (
        zero,
        y,
        record {
          here = refl;
          passes = t1;
          before = λ j z l e. absurd (omega (arith, l));
        },
      )
      | inr f1 ↦ elim (in_cases y ys x h) [
        | inl e ↦ absurd (cc)
        | inr i ↦ (let r = first_there test ys x i t in
            (suc r.0, r.1, first_later test y ys f1 r.0 r.1 r.2))
      ]
    ]

-- at most one element is found
pub one_found : {X : Type 0} (with_code : ℕ → X → Bool) (won : Bool) (c : ℕ) (xs : List X) (i j : ℕ)
    (x y : X) → IsFound with_code won c xs i x → IsFound with_code won c xs j y → (i ≡ j) × (x ≡ y)
one_found with_code true c xs i j x y a b = one_first i j x y a b
one_found with_code false c xs i j x y (inl a) (inl b) = one_first i j x y a b
one_found with_code false c xs i j x y (inr a) (inr b) = one_first i j x y a.1 b.1
one_found with_code false c xs i j x y (inl a) (inr b) =
    absurd (let f = b.0 x (at_in xs i x a.here) in let t = a.passes in cc)
one_found with_code false c xs i j x y (inr a) (inl b) =
    absurd (let f = a.0 y (at_in xs j y b.here) in let t = b.passes in cc)
