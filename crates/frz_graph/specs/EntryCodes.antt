-- The codes of moves by the entries of a side.
use Rattle.std.specs.Prelude.{◌<◌, ◌≤◌, ℕ, List, slice_index}
use Rattle.frz_board.specs.declared.man.Colour.{Colour}
use Rattle.frz_board.specs.declared.man.Colour.TheVariants.{White, Black}
use Rattle.frz_board.specs.Moving.{Step}
use Rattle.frz_exits.specs.Value.{Value}
use Rattle.frz_arena.specs.declared.arm.Arm.{Arm}
use Rattle.frz_arena.specs.declared.arm.Next.{Next}
use Rattle.frz_arena.specs.Codes.{exit_code}
use Rattle.frz_arena.specs.LocalCodes.{code_by}
use Rattle.frz_arena.specs.Plies.{LeadsTo}
use Rattle.frz_exits.specs.Values.{class_of, lag_of}

-- the code of a value for a side
abbrev pub value_code : Colour → Value → ℕ
value_code side v = exit_code (class_of v side) (lag_of v)

-- the code of where a move leads: the entry of a number inside, the code of a value outside
abbrev pub next_code : Colour → List ℕ → Next ℕ Value → ℕ
next_code side entries = code_by (λ k. slice_index entries k) (value_code side)

abbrev pub arm_code : Colour → List ℕ → Arm Step ℕ Value → ℕ
arm_code side entries a = next_code side entries a.next

-- a number inside is below the size, and an exit has a lag of at most 1,000 plies
abbrev pub IsWithin : ℕ → Next ℕ Value → Type 0
IsWithin size = LeadsTo (λ q. q < size) (λ v. lag_of v ≤ 1000)

-- the list of the side, of White's and Black's
abbrev pub of_side : Colour → List ℕ → List ℕ → List ℕ
of_side White white black = white
of_side Black white black = black
