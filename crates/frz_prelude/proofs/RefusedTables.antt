-- How a command ends whose table is refused: with which status and line, and what they mean.
use Rattle.std.proofs.Common.{◌≡◌, refl, sym, subst, ℕ, List, Some, Result, Err}
use Rattle.frz_store.specs.Files.{Files}
use Rattle.frz_table.specs.declared.fault.TableFault.{TableFault}
use Rattle.frz_table.specs.declared.fault.TableFault.TheVariants.{Missing, Magic, Other, Truncated, Extra, Rules, Size, Failed, NoMemory}
use Rattle.frz_table.specs.declared.kind.FileKind.{FileKind}
use Rattle.frz_table.specs.Opening.{Format, Contents, Refuses, opened, table_format}
use Rattle.frz_answer.specs.declared.status.Status.{Status}
use Rattle.frz_answer.specs.declared.status.Status.TheVariants as statuses
use Rattle.frz_answer.specs.Statuses.{OneOf}
use Rattle.frz_answer.specs.World.{World}
use Rattle.frz_answer.specs.Jobs.{Job}
use Rattle.frz_prelude.specs.Refusals.{table_status, status_of}
use Rattle.frz_prelude.specs.Stops.{stop_of_table}
use Rattle.frz_prelude.specs.TableCauses.{table_line}
use Rattle.frz_prelude.specs.TableFiles.{TellsFaultOfKind}
use Rattle.frz_prelude.specs.declared.refused.Refused.{Refused as Refusal}
use Rattle.frz_prelude.specs.declared.refused.Refused.TheVariants as refusals
use Rattle.frz_prelude.specs.declared.stop.Stop.TheVariants.{Refused}
use Rattle.frz_prelude.proofs.OpenedTables.{IsOfBytes, of_bytes, table_own}
use Rattle.frz_prelude.proofs.Stopping.{StopsWith}

by_fault : (fault : TableFault) → IsOfBytes fault → table_status fault ≡ statuses.Table
by_fault Missing of = absurd of
by_fault Magic of = refl
by_fault (Other other) of = refl
by_fault (Truncated length due) of = refl
by_fault (Extra length due) of = refl
by_fault (Rules fault) of = refl
by_fault (Size kept due) of = refl
by_fault Failed of = absurd of
by_fault NoMemory of = absurd of

-- what the bytes of a file are refused for has the status of a table
pub bytes_status : (format : Format) (bytes : List ℕ) (fault : TableFault)
    → opened format (Some bytes) ≡ Err fault → table_status fault ≡ statuses.Table
bytes_status format bytes fault e = by_fault fault (of_bytes format bytes fault e)

-- what an answer means, by its status and its text, where the bytes of its table are refused
pub refused_means : (kind : FileKind) (table : List ℕ) (files : Files)
    (Means : Status → List ℕ → Type 0)
    → ((text : List ℕ) → TellsFaultOfKind kind table files text → Means statuses.Table text)
    → (bytes : List ℕ) → files table ≡ Some bytes → (fault : TableFault)
    → opened (table_format kind) (Some bytes) ≡ Err fault
    → Means (table_status fault) (table_line fault)
refused_means kind table files Means tells bytes there fault e =
    subst (λ (s : Status). Means s (table_line fault))
    (sym (bytes_status (table_format kind) bytes fault e))
    (tells (table_line fault)
    (record { bytes = bytes; there = there; fault = fault; refused = e; told = refl }))

from_table : (fault : TableFault) (why : Refusal) → stop_of_table fault ≡ Refused why
    → refusals.Table fault ≡ why
from_table Missing why e = cc
from_table Magic why e = cc
from_table (Other other) why e = cc
from_table (Truncated length due) why e = cc
from_table (Extra length due) why e = cc
from_table (Rules fault) why e = cc
from_table (Size kept due) why e = cc
from_table Failed why e = cc
from_table NoMemory why e = cc

-- a table is refused with the status of one that is missing, or with that of a table
pub stop_own : (fault : TableFault) (own : List Status) → OneOf statuses.Missing own
    → OneOf statuses.Table own → (why : Refusal) → stop_of_table fault ≡ Refused why
    → OneOf (status_of why) own
stop_own fault own missing table why e =
    subst (λ (w : Refusal). OneOf (status_of w) own) (from_table fault why e)
    (table_own fault own missing table)

-- how a job stops where its table was not opened: what the file is refused for is named, and a
-- fault of the store or want of memory ends it
pub stops_by : (job : Job) (files : Files) (input : List ℕ) (old new : World)
    (given : Result Contents TableFault) (fault : TableFault)
    → (given ≡ Err fault → StopsWith job (Refused (refusals.Table fault)) files input old new)
    → StopsWith job (stop_of_table Failed) files input old new
    → Refuses given fault → StopsWith job (stop_of_table fault) files input old new
stops_by job files input old new given Missing refused begun e = refused e
stops_by job files input old new given Magic refused begun e = refused e
stops_by job files input old new given (Other other) refused begun e = refused e
stops_by job files input old new given (Truncated length due) refused begun e = refused e
stops_by job files input old new given (Extra length due) refused begun e = refused e
stops_by job files input old new given (Rules fault) refused begun e = refused e
stops_by job files input old new given (Size kept due) refused begun e = refused e
stops_by job files input old new given Failed refused begun e = begun
stops_by job files input old new given NoMemory refused begun e = begun
