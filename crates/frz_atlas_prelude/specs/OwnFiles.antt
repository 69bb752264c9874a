-- What the word TABLE of a command names, where the file is opened as its own kind.
use Rattle.std.specs.Prelude.{◌≡◌, ℕ, List, Some, Ok, Err}
use Rattle.frz_store.specs.Files.{Files}
use Rattle.frz_table.specs.declared.fault.TableFault.{TableFault}
use Rattle.frz_table.specs.Opening.{Contents, opened, own_format}
use Rattle.frz_prelude.specs.TableCauses.{table_line}

-- the name holds these bytes, and they open with these contents
pub record OpensAsOwn (table : List ℕ) (files : Files) (bytes : List ℕ) (contents : Contents)
    : Type 0 where
  pub there : files table ≡ Some bytes
  pub opens : opened own_format (Some bytes) ≡ Ok contents

-- the file is there, and the text names the first fault of its bytes
pub record TellsOwnFault (table : List ℕ) (files : Files) (text : List ℕ) : Type 0 where
  pub bytes : List ℕ
  pub there : files table ≡ Some bytes
  pub fault : TableFault
  pub refused : opened own_format (Some bytes) ≡ Err fault
  pub told : text ≡ table_line fault
