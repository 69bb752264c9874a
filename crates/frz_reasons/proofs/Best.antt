-- The best of some elements that pass a test.
use Rattle.std.proofs.Common.{◌≡◌, ◌⊎◌, inl, inr, Bool, true, false, List, [], ◌∷◌, subst}
use Rattle.std.specs.List.{Contains}
use Rattle.std.proofs.lemmas.Bool.{cases_Bool}
use Rattle.frz_arena.proofs.Lemmas.{none_in_empty, first_in, later_in, in_cases}

-- an order in which any two elements stand
pub record IsOrder {X : Type 0} (R : X → X → Type 0) : Type 0 where
  pub total : (x y : X) → R x y ⊎ R y x
  pub trans : (x y z : X) → R x y → R y z → R x z

-- x passes the test, and stands before each element that does
pub record IsBest {X : Type 0} (test : X → Bool) (R : X → X → Type 0) (xs : List X)
    (x : X) : Type 0 where
  pub there : Contains xs x
  pub passes : test x ≡ true
  pub best : (y : X) → Contains xs y → test y ≡ true → R x y

order_is_reflexive : {X : Type 0} (R : X → X → Type 0) → IsOrder R → (x : X) → R x x
order_is_reflexive R order x = elim (order.total x x) [ inl h ↦ h | inr h ↦ h ]

-- the first element passes
best_first : {X : Type 0} (test : X → Bool) (R : X → X → Type 0) → IsOrder R → (x : X)
    (xs : List X) → test x ≡ true →
    ((b : X) × IsBest test R xs b) ⊎ ((y : X) → Contains xs y → test y ≡ true → ⊥) →
    (b : X) × IsBest test R (x ∷ xs) b
best_first {X} test R order x xs t (inl r) =
    elim (order.total x r.0) [
      | inl before ↦ (
        x,
        record {
          there = first_in x xs;
          passes = t;
          best = λ y i u. elim (in_cases x xs y i) [
            | inl e ↦ subst (λ (z : X). R x z) e (order_is_reflexive R order x)
            | inr j ↦ order.trans x r.0 y before (r.1.best y j u)
          ];
        },
      )
      | inr behind ↦ (
        r.0,
        record {
          there = later_in x xs r.0 r.1.there;
          passes = r.1.passes;
          best = λ y i u. elim (in_cases x xs y i) [
            | inl e ↦ subst (λ (z : X). R r.0 z) e behind
            | inr j ↦ r.1.best y j u
          ];
        },
      )
    ]
best_first {X} test R order x xs t (inr none) = (
  x,
  record {
    there = first_in x xs;
    passes = t;
    best = λ y i u. elim (in_cases x xs y i) [
      | inl e ↦ subst (λ (z : X). R x z) e (order_is_reflexive R order x)
      | inr j ↦ absurd (none y j u)
    ];
  },
)

-- the first element does not pass
best_later : {X : Type 0} (test : X → Bool) (R : X → X → Type 0) (x : X) (xs : List X) →
    test x ≡ false →
    ((b : X) × IsBest test R xs b) ⊎ ((y : X) → Contains xs y → test y ≡ true → ⊥) →
    ((b : X) × IsBest test R (x ∷ xs) b) ⊎ ((y : X) → Contains (x ∷ xs) y → test y ≡ true → ⊥)
best_later test R x xs f (inl r) = inl (
  r.0,
  record {
    there = later_in x xs r.0 r.1.there;
    passes = r.1.passes;
    best = λ y i u. elim (in_cases x xs y i) [ inl e ↦ absurd (cc) | inr j ↦ r.1.best y j u ];
  },
)
best_later test R x xs f (inr none) =
    inr (λ y i u. elim (in_cases x xs y i) [ inl e ↦ absurd (cc) | inr j ↦ none y j u ])

-- one element is the best that passes, or none passes
pub best_of : {X : Type 0} (test : X → Bool) (R : X → X → Type 0) → IsOrder R → (xs : List X) →
    ((b : X) × IsBest test R xs b) ⊎ ((y : X) → Contains xs y → test y ≡ true → ⊥)
best_of test R order [] = inr (λ y i t. none_in_empty y i)
best_of test R order (x ∷ xs) =
    elim (cases_Bool (test x)) [
      | inl t ↦ inl (best_first test R order x xs t (best_of test R order xs))
      | inr f ↦ best_later test R x xs f (best_of test R order xs)
    ]
