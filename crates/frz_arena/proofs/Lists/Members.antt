-- Membership, by recursion on the list, and the cases of an option.
use Rattle.std.proofs.Common.{◌≡◌, zero, suc, ◌⊎◌, inl, inr, Bool, true, List, [], ◌∷◌, refl, arith, Option, None, Some}
use Rattle.std.specs.List.{Contains}
use Rattle.std.proofs.lemmas.List.Elements.{Contains-append_right}
use Rattle.std.proofs.lemmas.Bool.{cases_Bool}

pub none_in_empty : {X : Type 0} (x : X) → Contains [] x → ⊥
none_in_empty x h = omega (arith, h.1)

pub first_in : {X : Type 0} (x : X) (xs : List X) → Contains (x ∷ xs) x
first_in x xs = (zero, omega arith, refl)

pub later_in : {X : Type 0} (y : X) (xs : List X) (x : X) → Contains xs x → Contains (y ∷ xs) x
later_in y xs x h = Contains-append_right (y ∷ []) xs x h

pub in_cases : {X : Type 0} (y : X) (xs : List X) (x : X) → Contains (y ∷ xs) x →
    (y ≡ x) ⊎ Contains xs x
in_cases y xs x (zero, h, e) = inl e
in_cases y xs x (suc k, h, e) = inr (k, omega (arith, h), e)

-- an option is nothing, or holds something
pub cases_Option : {X : Type 0} (o : Option X) → (o ≡ None) ⊎ ((x : X) × (o ≡ Some x))
cases_Option None = inl refl
cases_Option (Some x) = inr (x, refl)

-- some element passes the test, or none does
pub passes_or_none : {X : Type 0} (test : X → Bool) (xs : List X) →
    ((x : X) × Contains xs x × (test x ≡ true)) ⊎ ((x : X) → Contains xs x → test x ≡ true → ⊥)
passes_or_none test [] = inr (λ x h _. none_in_empty x h)
passes_or_none {X} test (y ∷ xs) =
    elim (cases_Bool (test y)) [
      | inl t ↦ inl (y, first_in y xs, t)
      | inr f ↦ elim (passes_or_none test xs) [
        | inl r ↦ inl (r.0, later_in y xs r.0 r.1, r.2)
        | inr none ↦ inr
            (λ x h t. elim (in_cases y xs x h) [ inl e ↦ absurd (cc) | inr i ↦ none x i t ])
      ]
    ]
