-- How a command ends whose table is refused as its own kind.
use Rattle.std.proofs.Common.{◌≡◌, refl, sym, subst, ℕ, List, Some, Err}
use Rattle.frz_store.specs.Files.{Files}
use Rattle.frz_table.specs.declared.fault.TableFault.{TableFault}
use Rattle.frz_table.specs.Opening.{opened, own_format}
use Rattle.frz_answer.specs.declared.status.Status.{Status}
use Rattle.frz_answer.specs.declared.status.Status.TheVariants as statuses
use Rattle.frz_prelude.specs.Refusals.{table_status}
use Rattle.frz_prelude.specs.TableCauses.{table_line}
use Rattle.frz_prelude.proofs.Lemmas.{bytes_status}
use Rattle.frz_atlas_prelude.specs.OwnFiles.{TellsOwnFault}

-- what an answer means, by its status and its text, where the bytes of its table are refused
pub own_refused_means : (table : List ℕ) (files : Files) (Means : Status → List ℕ → Type 0)
    → ((text : List ℕ) → TellsOwnFault table files text → Means statuses.Table text)
    → (bytes : List ℕ) → files table ≡ Some bytes → (fault : TableFault)
    → opened own_format (Some bytes) ≡ Err fault → Means (table_status fault) (table_line fault)
own_refused_means table files Means tells bytes there fault e =
    subst (λ (s : Status). Means s (table_line fault)) (sym (bytes_status own_format bytes fault e))
    (tells (table_line fault)
    (record { bytes = bytes; there = there; fault = fault; refused = e; told = refl }))
