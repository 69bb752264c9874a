-- A list with one element more.
use Rattle.std.proofs.Common.{◌≡◌, ℕ, ◌+◌, ◌<◌, List, [], ◌∷◌, ◌++◌, length, inl, inr, sym, subst, arith}
use Rattle.std.specs.List.{slice_index_or}
use Rattle.std.proofs.lemmas.Bool.{cases_lt}
use Rattle.std.proofs.lemmas.List.{get_or_append_left}
use Rattle.std.proofs.Math.Seq.{get_or-append_seam}

-- what holds of all elements and of the one that is added
pub pushed : {X : Type 0} (Q : ℕ → X → Type 0) (old new : List X) (x d : X) (k : ℕ) →
    new ≡ old ++ x ∷ [] → length old ≡ k →
    ((i : ℕ) → i < k → Q i (slice_index_or old i d)) → Q k x → (i : ℕ) → i < k + 1 →
    Q i (slice_index_or new i d)
pushed Q old new x d k is many each last i l =
    subst (λ xs. Q i (slice_index_or xs i d)) (sym is)
    (elim (cases_lt i k) [
      | inl low ↦ subst (Q i) (sym (get_or_append_left old (x ∷ []) d i (omega arith))) (each i low)
      | inr high ↦ (
          let same : length old ≡ i = omega arith in
          let at : k ≡ i = omega arith in
          subst (λ j. Q i (slice_index_or (old ++ x ∷ []) j d)) same
          (subst (Q i) (sym (get_or-append_seam old x [] d)) (subst (λ j. Q j x) at last)))
    ])
