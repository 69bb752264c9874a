-- What a number begins with for a side, as a counter and one code.
use Rattle.std.specs.Prelude.{◌≡◌, ◌≢◌, ℕ, ◌<◌, ◌≤◌, List, cond, length, nat_lt, slice_index}
use Rattle.frz_board.specs.declared.man.Colour.{Colour}
use Rattle.frz_board.specs.Moving.{Step}
use Rattle.frz_sets.specs.declared.exit.Value.{Value}
use Rattle.frz_arena.specs.Arena.{Arena}
use Rattle.frz_arena.specs.declared.node.Node.{Node}
use Rattle.frz_arena.specs.declared.node.Node.TheVariants.{Going}
use Rattle.frz_retro.specs.Beginning.{IsBegun}
use Rattle.frz_retro.specs.Graphs.{Arm}

-- the entry that a number with this code in its note begins with: below 4 the code itself; from 4
-- on the number is open, and the code is the one that its exits alone give it in the end
abbrev pub entry_in : ℕ → ℕ
entry_in code = cond (nat_lt code 4) code 1

-- the code that the number's exits alone give it in the end, or 0
abbrev pub later_in : ℕ → ℕ
later_in code = cond (nat_lt code 4) 0 code

-- the note of a number with this node and these arms
pub record IsNoteOf (side : Colour) (node : Node) (arms : List Arm) (count code : ℕ) : Type 0 where
  pub begun : IsBegun side node arms (entry_in code) count (later_in code)
  pub ended : ((c : Colour) → node ≢ Going c) → later_in code ≡ 0
  pub short : code ≤ 2004

-- the notes of all numbers: for how many arms each waits, and its code
pub record Notes : Type 0 where
  pub counts : List ℕ
  pub codes : List ℕ

-- the notes have room for exactly so many numbers
pub record HasRoom (size : ℕ) (notes : Notes) : Type 0 where
  pub counts : length notes.counts ≡ size
  pub codes : length notes.codes ≡ size

-- the first n numbers are noted
pub record AreNoted (arena : Arena Step ℕ Value) (size : ℕ) (side : Colour) (n : ℕ)
    (notes : Notes) : Type 0 where
  pub room : HasRoom size notes
  pub each : (i : ℕ) → i < n → IsNoteOf side (arena.node i) (arena.arms i)
      (slice_index notes.counts i) (slice_index notes.codes i)

-- what is kept of both sides: the entries of the one that is solved, and what the other one's
-- numbers begin with
pub record Kept : Type 0 where
  pub entries : List ℕ
  pub notes : Notes
