-- Planes written row by row.
use Rattle.std.proofs.Common.{◌≡◌, ℕ, ◌+◌, ◌<◌, ◌≤◌, Bool, List, get_or, length, set, ap, sym, ◌∙◌, arith, inl, inr, get_or-set_same, get_or-set_other}
use Rattle.std.proofs.lemmas.Bool.{cases_eq}
use Rattle.frz_squares.specs.SquareSets.{has_square}
use Rattle.frz_planes.specs.Planes.{IsPlaneOf}

-- each row below i has the squares that pass the test
abbrev pub AreRows : (ℕ → ℕ → Bool) → ℕ → List ℕ → Type 0
AreRows test i rows =
    (k : ℕ) → k < i → (b : ℕ) → b < 64 → has_square (get_or rows k 0) b ≡ test k b

pub row_more : (test : ℕ → ℕ → Bool) (i w : ℕ) (rows : List ℕ) → i < length rows →
    ((b : ℕ) → b < 64 → has_square w b ≡ test i b) → AreRows test i rows →
    AreRows test (i + 1) (set rows i w)
row_more test i w rows l e h k m b lb =
    elim (cases_eq k i) [
      | inl s ↦ ap (λ j. has_square (get_or (set rows i w) j 0) b) s
          ∙ ap (λ v. has_square v b) (get_or-set_same rows i w 0 l)
          ∙ e b lb ∙ ap (λ j. test j b) (sym s)
      | inr ne ↦ ap (λ v. has_square v b) (get_or-set_other rows i k w 0 ne)
          ∙ h k (omega arith) b lb
    ]

pub all_rows : (test : ℕ → ℕ → Bool) (i : ℕ) (rows : List ℕ) → 64 ≤ i → AreRows test i rows →
    IsPlaneOf rows test
all_rows test i rows l h a b la lb = h a (omega arith) b lb
