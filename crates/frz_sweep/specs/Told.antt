-- What the code of a number tells after some plies.
use Rattle.std.specs.Prelude.{◌≡◌, ◌≤◌, ◌<◌, ◌+◌, ◌*◌, ◌↔◌, ℕ, List, slice_index, nat_le, if◌then◌else◌}
use Rattle.frz_board.specs.declared.man.Colour.{Colour}
use Rattle.frz_arena.specs.declared.node.Node.TheVariants.{Broken}
use Rattle.frz_arena.specs.Arena.{Arena}
use Rattle.frz_arena.specs.Plies.{WinsWithin, FailsWithin}
use Rattle.frz_arena.specs.Codes.{IsWinWithin, IsFailureWithin}

-- the code tells the wins and failures of the number within fewer plies than n, and no others;
-- it is 0 only where the number is broken, and there from the first ply on
pub record IsTold {M V : Type 0} (arena : Arena M ℕ V) (side : Colour) (n i code : ℕ) : Type 0 where
  pub zero : code ≡ 0 → arena.node i ≡ Broken
  pub broken : 0 < n → arena.node i ≡ Broken → code ≡ 0
  pub wins : (m : ℕ) → m < n → WinsWithin arena side m i ↔ IsWinWithin m code
  pub fails : (m : ℕ) → m < n → FailsWithin arena side m i ↔ IsFailureWithin m code
  pub within : code ≤ 1 + 2 * n

-- the code of each number tells its wins and failures within fewer plies than n, and no others
abbrev pub AreTold : {M V : Type 0} → Arena M ℕ V → Colour → ℕ → List ℕ → Type 0
AreTold arena side n codes = (i : ℕ) → IsTold arena side n i (slice_index codes i)

-- the code, if it has at most so many plies, else 1, the code of an open number
abbrev pub settled_code : (ply code : ℕ) → ℕ
settled_code ply code = if nat_le code (3 + 2 * ply) then code else 1
