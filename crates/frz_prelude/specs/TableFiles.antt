-- What the word TABLE of a command names.
use Rattle.std.specs.Prelude.{◌≡◌, ℕ, List, Some, Ok, Err}
use Rattle.frz_store.specs.Files.{Files}
use Rattle.frz_table.specs.declared.fault.TableFault.{TableFault}
use Rattle.frz_table.specs.declared.kind.FileKind.{FileKind}
use Rattle.frz_table.specs.declared.kind.FileKind.TheVariants.{Plain}
use Rattle.frz_table.specs.Opening.{Contents, opened, table_format}
use Rattle.frz_prelude.specs.TableCauses.{table_line}

-- the name holds these bytes, and they open as a table file of this kind with these contents
pub record OpensAsKind
    (kind : FileKind) (table : List ℕ) (files : Files) (bytes : List ℕ)
    (contents : Contents) : Type 0 where
  pub there : files table ≡ Some bytes
  pub opens : opened (table_format kind) (Some bytes) ≡ Ok contents

abbrev pub OpensAs : List ℕ → Files → List ℕ → Contents → Type 0
OpensAs table files bytes contents = OpensAsKind Plain table files bytes contents

-- the file is there, and the text names the first fault of its bytes
pub record TellsFaultOfKind (kind : FileKind) (table : List ℕ) (files : Files)
    (text : List ℕ) : Type 0 where
  pub bytes : List ℕ
  pub there : files table ≡ Some bytes
  pub fault : TableFault
  pub refused : opened (table_format kind) (Some bytes) ≡ Err fault
  pub told : text ≡ table_line fault

abbrev pub TellsTableFault : List ℕ → Files → List ℕ → Type 0
TellsTableFault table files text = TellsFaultOfKind Plain table files text
