-- Tables of codes, one for each number.
use Rattle.std.specs.Prelude.{◌≡◌, ◌<◌, ℕ, List, length, slice_index, Some, None}
use Rattle.frz_board.specs.declared.man.Colour.{Colour}
use Rattle.frz_arena.specs.declared.bound.Bound.{Bound}
use Rattle.frz_arena.specs.Arena.{Arena}
use Rattle.frz_arena.specs.Bounds.{IsBound}
use Rattle.frz_arena.specs.Codes.{code_of}
use Rattle.frz_arena.specs.LocalCodes.{local_code}
use Rattle.frz_arena.specs.Names.{Numbering}

-- the table is exact: it has as many codes as numbers, and each is the local code that the table
-- gives
pub record IsExact {M V : Type 0}
    (arena : Arena M ℕ V) (side : Colour) (size : ℕ) (codes : List ℕ) : Type 0 where
  pub many : length codes ≡ size
  pub local : (i : ℕ) → i < size →
      slice_index codes i ≡ local_code arena side (λ k. slice_index codes k) i

-- the table of a side: at the number of a position the code of its bound, and 0 at a number of none
pub record IsTable {M N V : Type 0}
    (numbers : Numbering N) (arena : Arena M N V) (side : Colour) (codes : List ℕ) : Type 0 where
  pub many : length codes ≡ numbers.size
  pub broken : (i : ℕ) → i < numbers.size → numbers.at i ≡ None → slice_index codes i ≡ 0
  pub bound : (p : N) (i : ℕ) → numbers.number p ≡ Some i →
      (b : Bound) × (slice_index codes i ≡ code_of b) × IsBound arena side p b
