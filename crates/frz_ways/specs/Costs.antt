-- What a player by a table file spends at the numbers that it comes to.
use Rattle.std.specs.Prelude.{◌≤◌, ◌+◌, ◌*◌, ℕ, List, [], ◌∷◌, length, sum_by}
use Rattle.frz_board.specs.Moving.{Step}
use Rattle.frz_sets.specs.declared.exit.Value.{Value}
use Rattle.frz_arena.specs.declared.arm.Arm.{Arm}
use Rattle.frz_arena.specs.declared.arm.Next.{Next}
use Rattle.frz_arena.specs.declared.arm.Next.TheVariants.{Inside, Outside}
use Rattle.frz_arena.specs.Arena.{Arena}
use Rattle.frz_arena.specs.Ways.{Ply}
use Rattle.frz_answer.specs.World.{Spent}

-- how many codes are read of the file for where a move leads: one for a number, none for an exit
abbrev pub next_reads : Next ℕ Value → ℕ
next_reads (Inside number) = 1
next_reads (Outside v) = 0

-- how many codes are read for these moves
abbrev pub arms_reads : List (Arm Step ℕ Value) → ℕ
arms_reads arms = sum_by (λ a. next_reads a.next) arms

-- how many codes are read for the moves of these numbers
abbrev pub reads_at : Arena Step ℕ Value → (numbers : List ℕ) → ℕ
reads_at arena numbers = sum_by (λ n. arms_reads (arena.arms n)) numbers

-- the numbers that these plies come to, the first being where a move has led
abbrev pub way_numbers : Next (ℕ × ℕ) Value → List (Ply Step (ℕ × ℕ) Value) → List ℕ
way_numbers (Outside v) plies = []
way_numbers (Inside p) [] = p.1 ∷ []
way_numbers (Inside p) (x ∷ plies) = p.1 ∷ way_numbers x.arm.next plies

-- at most so many codes were read, each by one call that asks for four bytes, and at most so many
-- steps made
pub record Spends (reads steps : ℕ) (before now : Spent) : Type 0 where
  pub stepped : now.steps ≤ before.steps + steps
  pub called : now.calls ≤ before.calls + reads
  pub asked : now.asked ≤ before.asked + 4 * reads

-- at most `more` codes were read beside those for the moves of these numbers, and at most one step
-- was made at each number
abbrev pub SpendsAt : Arena Step ℕ Value → (more : ℕ) → (numbers : List ℕ) → (before now : Spent)
    → Type 0
SpendsAt arena more numbers before now =
    Spends (more + reads_at arena numbers) (length numbers) before now
