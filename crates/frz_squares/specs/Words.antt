-- The first square of a set from a number on.
use Rattle.std.specs.Prelude.{ℕ, ◌≡◌, ◌≤◌, ◌<◌, true, false}
use Rattle.frz_squares.specs.SquareSets.{has_square}

-- no square of the set has this number or one above it
pub record HasNoneFrom (w n : ℕ) : Type 0 where
  pub none : (k : ℕ) → n ≤ k → k < 64 → has_square w k ≡ false

-- the first square of the set with this number or one above it
pub record IsNext (w n s : ℕ) : Type 0 where
  pub from : n ≤ s
  pub on_board : s < 64
  pub there : has_square w s ≡ true
  pub first : (k : ℕ) → n ≤ k → k < s → has_square w k ≡ false
