-- What the word TABLE of a query names, by the kind as which it is opened.
use Rattle.std.specs.Prelude.{◌≡◌, ℕ, List, Option, Some, Ok, Err}
use Rattle.frz_store.specs.Files.{Files}
use Rattle.frz_table.specs.declared.fault.TableFault.{TableFault}
use Rattle.frz_table.specs.declared.kind.FileKind.{FileKind}
use Rattle.frz_table.specs.Opening.{Contents, format_for, opened}
use Rattle.frz_prelude.specs.TableCauses.{table_line}

-- the name holds these bytes, and they open as a table file of this kind, or with None of the kind
-- as which they begin, with these contents
pub record OpensAsked (kind : Option FileKind) (table : List ℕ) (files : Files) (bytes : List ℕ)
    (contents : Contents) : Type 0 where
  pub there : files table ≡ Some bytes
  pub opens : opened (format_for kind) (Some bytes) ≡ Ok contents

-- the file is there, and the text names the first fault of its bytes
pub record TellsAskedFault (kind : Option FileKind) (table : List ℕ) (files : Files)
    (text : List ℕ) : Type 0 where
  pub bytes : List ℕ
  pub there : files table ≡ Some bytes
  pub fault : TableFault
  pub refused : opened (format_for kind) (Some bytes) ≡ Err fault
  pub told : text ≡ table_line fault
