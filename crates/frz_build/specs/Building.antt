-- How a table file is built, and by how many calls of the store.
use Rattle.std.specs.Prelude.{ℕ, ◌+◌, ◌*◌, List, Result}
use Rattle.frz_board.specs.Boards.{Board}
use Rattle.frz_sets.specs.declared.exit.Value.{Value}
use Rattle.frz_sets.specs.Views.{RuleLines}
use Rattle.frz_store.specs.Told.{StoreTold}
use Rattle.frz_store.specs.Writes.{Written}
use Rattle.frz_store.specs.declared.outside.StoreFault.{StoreFault}
use Rattle.frz_table.specs.Layout.{pieces_of}
use Rattle.frz_check.specs.OneFile.{IsOneFile}

-- `bytes` are the one file of the text, and as much of them was written under the name as the
-- result says
pub record Builds {T : Type 0} (magic text : List ℕ) (rules : RuleLines) (value : Board → Value)
    (name : List ℕ) (result : Result T StoreFault) (old new : StoreTold) : Type 0 where
  pub bytes : List ℕ
  pub one_file : IsOneFile magic text rules value bytes
  pub written : Written name bytes result old new

-- how many calls write a file of so many numbers: one creates it, three append its header, and the
-- codes of each side come in pieces
abbrev pub writing_calls : ℕ → ℕ
writing_calls size = 4 + 2 * pieces_of size
