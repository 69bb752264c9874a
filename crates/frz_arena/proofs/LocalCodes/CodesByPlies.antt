-- Codes told by the plies: what the entries say of wins and failures within each number of plies.
use Rattle.std.proofs.Common.{◌≡◌, ◌↔◌, ℕ}
use Rattle.frz_board.specs.declared.man.Colour.{Colour}
use Rattle.frz_arena.specs.declared.node.Node.TheVariants.{Broken}
use Rattle.frz_arena.specs.Arena.{Arena}
use Rattle.frz_arena.specs.Plies.{WinsWithin, FailsWithin}
use Rattle.frz_arena.specs.Codes.{IsWinWithin, IsFailureWithin}

-- each entry says within how many plies the side wins or fails
pub record AreCodes {M N V : Type 0} (arena : Arena M N V) (side : Colour)
    (entry : N → ℕ) : Type 0 where
  pub broken : (p : N) → (arena.node p ≡ Broken) ↔ (entry p ≡ 0)
  pub wins : (n : ℕ) (p : N) → WinsWithin arena side n p ↔ IsWinWithin n (entry p)
  pub fails : (n : ℕ) (p : N) → FailsWithin arena side n p ↔ IsFailureWithin n (entry p)
