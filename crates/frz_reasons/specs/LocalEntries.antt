-- The entry of a number against its local code.
use Rattle.std.specs.Prelude.{◌≡◌, ◌≢◌, ℕ, List, slice_index, Result, Ok, Err}
use Rattle.frz_board.specs.declared.man.Colour.{Colour}
use Rattle.frz_board.specs.Moving.{Step}
use Rattle.frz_sets.specs.declared.exit.Value.{Value}
use Rattle.frz_arena.specs.declared.node.Node.{Node}
use Rattle.frz_arena.specs.Arena.{Arena}
use Rattle.frz_arena.specs.LocalCodes.{local_code}
use Rattle.frz_game.specs.declared.wrong.Wrong.{Wrong}

-- the local code of the number, by the codes kept for the side
abbrev pub given_at : Arena Step ℕ Value → Colour → (codes : List ℕ) → (number : ℕ) → ℕ
given_at arena side codes number = local_code arena side (λ k. slice_index codes k) number

-- the kept code of the number is its local code
abbrev pub Agrees : Arena Step ℕ Value → Colour → (codes : List ℕ) → (number : ℕ) → Type 0
Agrees arena side codes number = slice_index codes number ≡ given_at arena side codes number

-- it is not, so that the entry is wrong
abbrev pub Differs : Arena Step ℕ Value → Colour → (codes : List ℕ) → (number : ℕ) → Type 0
Differs arena side codes number = slice_index codes number ≢ given_at arena side codes number

-- the wrong entry of the number
abbrev pub wrong_at : Arena Step ℕ Value → Colour → (codes : List ℕ) → (number : ℕ) → Wrong
wrong_at arena side codes number = record {
  side = side;
  number = number;
  kept = slice_index codes number;
  given = given_at arena side codes number;
}

-- what the number is, where its entry is right, and else its entry
abbrev pub IsSeenAt : Arena Step ℕ Value → Colour → (codes : List ℕ) → (number : ℕ)
    → Result Node Wrong → Type 0
IsSeenAt arena side codes number (Ok node) =
    Agrees arena side codes number × (arena.node number ≡ node)
IsSeenAt arena side codes number (Err wrong) =
    Differs arena side codes number × (wrong ≡ wrong_at arena side codes number)
