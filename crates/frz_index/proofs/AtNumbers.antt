-- The position of a number.
use Rattle.std.proofs.Common.{◌≡◌, ℕ, List, Option, None, Some, refl, ap, sym, ◌∙◌, subst, ◌↔◌}
use Rattle.std.specs.Prelude.{IsNone}
use Rattle.std.proofs.lemmas.Option.{same_Some}
use Rattle.frz_board.specs.Boards.{Board}
use Rattle.frz_index.proofs.WholeNumbers.{candidate-Num}
use Rattle.frz_index.specs.Candidates.{candidate}
use Rattle.frz_index.specs.Members.{Broken, HasNumber}
use Rattle.frz_sets.specs.Views.{GroupLine}

-- what has the number is the candidate
pub is_candidate : (gs : List GroupLine) (i : ℕ) (p : Board) → HasNumber gs i p → candidate gs i ≡ p
is_candidate gs i p h = ap (candidate gs) (sym h.number) ∙ candidate-Num gs p h.member

pub at_found : (gs : List GroupLine) (i : ℕ) (q : Board) → q ≡ candidate gs i → HasNumber gs i q →
    (p : Board) → (Some q ≡ Some p) ↔ HasNumber gs i p
at_found gs i q e k p =
    (λ s. subst (HasNumber gs i) (same_Some q p s) k, λ h. ap Some (e ∙ is_candidate gs i p h))

pub at_other : (gs : List GroupLine) (i : ℕ) (q : Board) → q ≡ candidate gs i →
    (HasNumber gs i q → ⊥) → (p : Board) → (None ≡ Some p) ↔ HasNumber gs i p
at_other gs i q e k p = (
  λ none. absurd cc,
  λ h. absurd (k (subst (HasNumber gs i) (sym (e ∙ is_candidate gs i p h)) h)),
)

pub at_broken : (gs : List GroupLine) (i : ℕ) → Broken gs i →
    (p : Board) → (None ≡ Some p) ↔ HasNumber gs i p
at_broken gs i broken p = (λ none. absurd cc, λ h. absurd (broken p h.member h.number))

-- no answer exactly at broken numbers
pub none_broken : (gs : List GroupLine) (i : ℕ) (r : Option Board) →
    ((p : Board) → (r ≡ Some p) ↔ HasNumber gs i p) → IsNone r ↔ Broken gs i
none_broken gs i None h = (
  λ e p m n. let wrong : None ≡ Some p = (h p).1 (record { member = m; number = n }) in
      absurd cc,
  λ b. refl,
)
none_broken gs i (Some q) h =
    (λ e. absurd cc, λ b. let k = (h q).0 refl in absurd (b q k.member k.number))
