-- The bound of a side at a position, and the code of it.
use Rattle.std.specs.Prelude.{◌≡◌, ◌≢◌, ◌<◌, ◌⊎◌, ℕ}
use Rattle.frz_board.specs.declared.man.Colour.{Colour}
use Rattle.frz_arena.specs.declared.bound.Bound.{Bound}
use Rattle.frz_arena.specs.declared.bound.Bound.TheVariants.{Wins, Holds, Fails}
use Rattle.frz_arena.specs.declared.node.Node.TheVariants.{Broken}
use Rattle.frz_arena.specs.Arena.{Arena}
use Rattle.frz_arena.specs.Codes.{code_of}
use Rattle.frz_arena.specs.Plies.{WinsWithin, FailsWithin}

-- the bound of the side at p: a win or a failure with its least plies, or a hold, where the side
-- neither wins nor fails within any number of plies
abbrev pub IsBound : {M N V : Type 0} → Arena M N V → Colour → N → Bound → Type 0
IsBound arena side p (Wins n) =
    WinsWithin arena side n p × ((k : ℕ) → k < n → WinsWithin arena side k p → ⊥)
IsBound arena side p Holds =
    ((n : ℕ) → WinsWithin arena side n p → ⊥) × ((m : ℕ) → FailsWithin arena side m p → ⊥)
IsBound arena side p (Fails m) =
    FailsWithin arena side m p × ((k : ℕ) → k < m → FailsWithin arena side k p → ⊥)

-- c is 0 where the position is broken, else the code of its bound
abbrev pub IsCodeAt : {M N V : Type 0} → Arena M N V → Colour → N → ℕ → Type 0
IsCodeAt arena side p c =
    ((arena.node p ≡ Broken) × (c ≡ 0))
    ⊎ ((arena.node p ≢ Broken) × ((b : Bound) × (c ≡ code_of b) × IsBound arena side p b))
