-- Which codes may be read for the moves of a number, whatever the store holds.
use Rattle.std.specs.Prelude.{◌≡◌, ◌<◌, ◌^◌, ℕ, List, [], ◌∷◌, ⊤}
use Rattle.frz_board.specs.declared.man.Colour.{Colour}
use Rattle.frz_board.specs.Moving.{Step}
use Rattle.frz_sets.specs.declared.exit.Value.{Value}
use Rattle.frz_arena.specs.declared.arm.Arm.{Arm}
use Rattle.frz_arena.specs.declared.arm.Next.{Next}
use Rattle.frz_arena.specs.declared.arm.Next.TheVariants.{Inside, Outside}
use Rattle.frz_arena.specs.Arena.{Arena, LeadsInside}
use Rattle.frz_graph.specs.EntryCodes.{value_code}

-- for a number of the set any number of 32 bits, for an exit the code of its value
abbrev pub IsCodeFor : Colour → Next ℕ Value → ℕ → Type 0
IsCodeFor side (Inside number) code = code < 2 ^ 32
IsCodeFor side (Outside v) code = code ≡ value_code side v

-- there is one such code for each move, in order
abbrev pub AreCodesFor : Colour → List (Arm Step ℕ Value) → List ℕ → Type 0
AreCodesFor side [] [] = ⊤
AreCodesFor side [] (c ∷ cs) = ⊥
AreCodesFor side (a ∷ arms) [] = ⊥
AreCodesFor side (a ∷ arms) (c ∷ cs) = IsCodeFor side a.next c × AreCodesFor side arms cs

-- no two of these moves lead to the same number
abbrev pub AreApart : List (Arm Step ℕ Value) → Type 0
AreApart arms = (k l n : ℕ) → LeadsInside arms k n → LeadsInside arms l n → k ≡ l

-- at no number do two moves lead to the same number
abbrev pub HasDifferentArms : Arena Step ℕ Value → Type 0
HasDifferentArms arena = (i : ℕ) → AreApart (arena.arms i)
