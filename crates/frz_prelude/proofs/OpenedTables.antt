-- Why a file may be refused as a table.
use Rattle.std.proofs.Common.{◌≡◌, subst, ℕ, ◌+◌, ◌==◌, List, length, take, Bool, true, false, Option, None, Some, Result, Ok, Err, if◌then◌else◌, refl}
use Rattle.std.specs.Prelude.{nat_lt, ⊤}
use Rattle.std.specs.Str.{bytes_eq}
use Rattle.frz_rules.specs.declared.fault.RulesCause.TheVariants.{TooLong}
use Rattle.frz_sets.specs.Views.{RuleLines}
use Rattle.frz_rules.specs.declared.fault.RulesFault.{RulesFault}
use Rattle.frz_table.specs.declared.fault.TableFault.{TableFault}
use Rattle.frz_table.specs.declared.fault.TableFault.TheVariants.{Missing, Magic, Other, Truncated, Extra, Rules, Size, Failed, NoMemory}
use Rattle.frz_table.specs.declared.other.OtherFile.{OtherFile}
use Rattle.frz_table.specs.Layout.{due_length}
use Rattle.frz_table.specs.Opening.{Format, Contents, opened, kept_length, kept_text, kept_size, of_length, of_size, with_rules, with_text, with_length, with_magic}
use Rattle.frz_answer.specs.declared.status.Status.{Status}
use Rattle.frz_answer.specs.declared.status.Status.TheVariants as statuses
use Rattle.frz_answer.specs.Statuses.{OneOf}
use Rattle.frz_store.specs.Told.{StoreTold}
use Rattle.frz_table.specs.Faults.{TableCauses, magic_fault}
use Rattle.frz_prelude.specs.Refusals.{table_status}
use Rattle.frz_prelude.specs.Stops.{HasItsCause, stop_of_table}

-- the fault is one of a file's bytes
abbrev pub IsOfBytes : TableFault → Type 0
IsOfBytes Missing = ⊥
IsOfBytes Failed = ⊥
IsOfBytes NoMemory = ⊥
IsOfBytes fault = ⊤

abbrev OfBytes : Result Contents TableFault → Type 0
OfBytes (Ok contents) = ⊤
OfBytes (Err fault) = IsOfBytes fault

either : (b : Bool) (x y : Result Contents TableFault) → OfBytes x → OfBytes y
    → OfBytes (if b then x else y)
either true x y h k = h
either false x y h k = k

by_length : (bytes : List ℕ) (contents : Contents) (due : ℕ)
    → OfBytes (of_length bytes contents due)
by_length bytes contents due =
    either (nat_lt (length bytes) due) (Err (Truncated (length bytes) due))
    (if nat_lt due (length bytes) then Err (Extra (length bytes) due) else Ok contents) tt
    (either (nat_lt due (length bytes)) (Err (Extra (length bytes) due)) (Ok contents) tt tt)

by_size : (bytes : List ℕ) (contents : Contents) (size : ℕ) → OfBytes (of_size bytes contents size)
by_size bytes contents size =
    either (kept_size bytes == size) (of_length bytes contents (due_length contents.text size))
    (Err (Size (kept_size bytes) size))
    (by_length bytes contents (due_length contents.text size)) tt

by_rules : (format : Format) (bytes : List ℕ) (read : Result RuleLines RulesFault)
    → OfBytes (with_rules format bytes read)
by_rules format bytes (Ok rules) =
    by_size bytes (record { text = kept_text bytes; rules = rules }) (format.size rules)
by_rules format bytes (Err fault) = tt

by_text : (format : Format) (bytes : List ℕ) → OfBytes (with_text format bytes)
by_text format bytes =
    either (nat_lt (length bytes) (16 + kept_length bytes))
    (Err (Truncated (length bytes) (16 + kept_length bytes)))
    (with_rules format bytes (format.read (kept_text bytes))) tt
    (by_rules format bytes (format.read (kept_text bytes)))

by_other : (other : Option OtherFile) → OfBytes (Err (magic_fault other))
by_other None = tt
by_other (Some other) = tt

by_magic : (format : Format) (bytes : List ℕ) → OfBytes (with_magic format bytes)
by_magic format bytes =
    either (bytes_eq (take 8 bytes) (format.magic (take 8 bytes))) (with_length format bytes)
    (Err (magic_fault (format.other (take 8 bytes))))
    (either (nat_lt 65536 (kept_length bytes)) (Err (Rules (record { line = 0; cause = TooLong })))
    (with_text format bytes) tt (by_text format bytes)) (by_other (format.other (take 8 bytes)))

by_bytes : (format : Format) (bytes : List ℕ) → OfBytes (opened format (Some bytes))
unfolding opened
by_bytes format bytes =
    either (nat_lt (length bytes) 16) (Err (Truncated (length bytes) 16)) (with_magic format bytes)
    tt (by_magic format bytes)

pub of_bytes : (format : Format) (bytes : List ℕ) (fault : TableFault)
    → opened format (Some bytes) ≡ Err fault → IsOfBytes fault
of_bytes format bytes fault e = subst OfBytes e (by_bytes format bytes)

-- a table that was not opened stops a job with the cause of its fault
pub table_cause : (T A : Type 0) (fault : TableFault) (old new : StoreTold)
    → TableCauses {T = T} old.faults new.faults old.wants new.wants (Err fault)
    → HasItsCause {A = A} (Err (stop_of_table fault)) old new
table_cause T A Missing old new h = record { faults = h.refused; wants = h.wants_refused }
table_cause T A Magic old new h = record { faults = h.refused; wants = h.wants_refused }
table_cause T A (Other other) old new h = record { faults = h.refused; wants = h.wants_refused }
table_cause T A (Truncated length due) old new h =
    record { faults = h.refused; wants = h.wants_refused }
table_cause T A (Extra length due) old new h =
    record { faults = h.refused; wants = h.wants_refused }
table_cause T A (Rules fault) old new h = record { faults = h.refused; wants = h.wants_refused }
table_cause T A (Size kept due) old new h = record { faults = h.refused; wants = h.wants_refused }
table_cause T A Failed old new h = h.failed refl
table_cause T A NoMemory old new h = tt

-- the status of a table that was not opened is one of these two
pub by_table_status : (P : Status → Type 0) (fault : TableFault) → P statuses.Missing
    → P statuses.Table → P (table_status fault)
by_table_status P Missing missing table = missing
by_table_status P Magic missing table = table
by_table_status P (Other other) missing table = table
by_table_status P (Truncated length due) missing table = table
by_table_status P (Extra length due) missing table = table
by_table_status P (Rules fault) missing table = table
by_table_status P (Size kept due) missing table = table
by_table_status P Failed missing table = table
by_table_status P NoMemory missing table = table

pub table_own : (fault : TableFault) (own : List Status) → OneOf statuses.Missing own
    → OneOf statuses.Table own → OneOf (table_status fault) own
table_own fault own missing table = by_table_status (λ s. OneOf s own) fault missing table
