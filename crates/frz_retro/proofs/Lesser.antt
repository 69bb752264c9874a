-- The lesser of two codes, where 0 is none.
use Rattle.std.proofs.Common.{◌≡◌, ℕ, zero, suc, ◌<◌, ◌≤◌, ◌⊎◌, min, refl, inl, inr, arith}
use Rattle.frz_retro.specs.Shape.{lesser}

pub lesser_cases : (c d : ℕ) → (lesser c d ≡ c) ⊎ ((lesser c d ≡ d) × (0 < d))
lesser_cases c zero = inl refl
lesser_cases c (suc d) = elim (min_cases c (suc d)) [ inl e ↦ inl e | inr e ↦ inr (e, omega arith) ]
  where
    min_cases : (a b : ℕ) → (min a b ≡ a) ⊎ (min a b ≡ b)
    min_cases a b = grind arith

pub lesser_le : (c d : ℕ) → lesser c d ≤ c
lesser_le c zero = omega arith
lesser_le c (suc d) = omega arith

pub lesser_le_right : (c d : ℕ) → 0 < d → lesser c d ≤ d
lesser_le_right c zero h = omega arith
lesser_le_right c (suc d) h = omega arith

pub lesser_pos : (c d : ℕ) → 0 < c → 0 < lesser c d
lesser_pos c zero h = h
lesser_pos c (suc d) h = omega arith
