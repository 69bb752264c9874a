-- The causes of the faults of several tables.
use Rattle.std.proofs.Common.{◌≡◌, refl, subst, ℕ, Result, Ok, Err}
use Rattle.frz_store.specs.Outside.{Rose}
use Rattle.frz_store.specs.Told.{StoreTold, StoreFine}
use Rattle.frz_table.specs.declared.fault.TableFault.{TableFault}
use Rattle.frz_table.specs.declared.fault.TableFault.TheVariants.{Missing, Magic, Other, Truncated, Extra, Rules, Size, Failed, NoMemory}
use Rattle.frz_table.specs.Faults.{TableCauses}
use Rattle.frz_table.specs.Opening.{Contents, Refuses}
use Rattle.frz_table.proofs.Lemmas.{fine_after}
use Rattle.frz_atlas.specs.Causes.{HasAtlasCause, HasFileCause, HasOneCause, IsFileCause, back_fault, table_fault}
use Rattle.frz_atlas.specs.declared.fault.AtlasFault.{AtlasFault}
use Rattle.frz_atlas.specs.declared.fault.AtlasFault.TheVariants as atlas
use Rattle.frz_atlas.specs.declared.fault.BackFault.{BackFault}
use Rattle.frz_atlas.specs.declared.fault.BackFault.TheVariants as one

-- what is so of a refused file, of a failure of the store and of want of memory is so of the fault
module _ (P : AtlasFault → Type 0) (given : Result Contents TableFault) (failed : P atlas.Failed)
    (wanted : P atlas.NoMemory) where
  pub by_table : ((f : TableFault) → given ≡ Err f → P (atlas.Table f)) → (fault : TableFault)
      → Refuses given fault → P (table_fault fault)
  by_table k Missing h = k Missing h
  by_table k Magic h = k Magic h
  by_table k (Other o) h = k (Other o) h
  by_table k (Truncated n due) h = k (Truncated n due) h
  by_table k (Extra n due) h = k (Extra n due) h
  by_table k (Rules f) h = k (Rules f) h
  by_table k (Size n due) h = k (Size n due) h
  by_table k Failed h = failed
  by_table k NoMemory h = wanted

  pub by_back : (place : ℕ)
      → ((f : TableFault) → given ≡ Err f → P (atlas.Back place (one.Refused f)))
      → (fault : TableFault) → Refuses given fault → P (back_fault place (one.Refused fault))
  by_back place k Missing h = k Missing h
  by_back place k Magic h = k Magic h
  by_back place k (Other o) h = k (Other o) h
  by_back place k (Truncated n due) h = k (Truncated n due) h
  by_back place k (Extra n due) h = k (Extra n due) h
  by_back place k (Rules f) h = k (Rules f) h
  by_back place k (Size n due) h = k (Size n due) h
  by_back place k Failed h = failed
  by_back place k NoMemory h = wanted

-- the cause of a fault of a table's file
pub file_cause : (T : Type 0) (result : Result T TableFault) (old new : StoreTold)
    → TableCauses old.faults new.faults old.wants new.wants result → HasFileCause result old new
file_cause T (Ok x) old new h = record { faults = h.fine; wants = h.wants_fine }
file_cause T (Err Failed) old new h = h.failed refl
file_cause T (Err NoMemory) old new h = tt
file_cause T (Err Missing) old new h = record { faults = h.refused; wants = h.wants_refused }
file_cause T (Err Magic) old new h = record { faults = h.refused; wants = h.wants_refused }
file_cause T (Err (Other o)) old new h = record { faults = h.refused; wants = h.wants_refused }
file_cause T (Err (Truncated n due)) old new h =
    record { faults = h.refused; wants = h.wants_refused }
file_cause T (Err (Extra n due)) old new h = record { faults = h.refused; wants = h.wants_refused }
file_cause T (Err (Rules f)) old new h = record { faults = h.refused; wants = h.wants_refused }
file_cause T (Err (Size n due)) old new h = record { faults = h.refused; wants = h.wants_refused }

-- calls before that succeeded change no cause
pub file_later : (fault : TableFault) (old mid new : StoreTold) → StoreFine old mid
    → IsFileCause fault mid new → IsFileCause fault old new
file_later Failed old mid new fine h = subst (λ (n : ℕ). Rose n new.faults) fine.faults h
file_later NoMemory old mid new fine h = tt
file_later Missing old mid new fine h = fine_after old mid new fine h
file_later Magic old mid new fine h = fine_after old mid new fine h
file_later (Other o) old mid new fine h = fine_after old mid new fine h
file_later (Truncated n due) old mid new fine h = fine_after old mid new fine h
file_later (Extra n due) old mid new fine h = fine_after old mid new fine h
file_later (Rules f) old mid new fine h = fine_after old mid new fine h
file_later (Size n due) old mid new fine h = fine_after old mid new fine h

-- the fault of one is that of all, behind those that were opened
pub atlas_cause : (T U : Type 0) (place : ℕ) (fault : BackFault) (old mid new : StoreTold)
    → StoreFine old mid → HasOneCause {T = T} (Err fault) mid new
    → HasAtlasCause {T = U} (Err (back_fault place fault)) old new
atlas_cause T U place (one.Wrong wrong) old mid new fine h = fine_after old mid new fine h
atlas_cause T U place (one.Refused fault) old mid new fine h =
    at fault (file_later fault old mid new fine h)
  where
    at : (f : TableFault) → IsFileCause f old new
        → HasAtlasCause {T = U} (Err (back_fault place (one.Refused f))) old new
    at Failed k = k
    at NoMemory k = tt
    at Missing k = k
    at Magic k = k
    at (Other o) k = k
    at (Truncated n due) k = k
    at (Extra n due) k = k
    at (Rules f) k = k
    at (Size n due) k = k

pub atlas_later : (T : Type 0) (result : Result T AtlasFault) (old mid new : StoreTold)
    → StoreFine old mid
    → HasAtlasCause result mid new → HasAtlasCause result old new
atlas_later T (Ok x) old mid new fine h = fine_after old mid new fine h
atlas_later T (Err (atlas.Rules f)) old mid new fine h = fine_after old mid new fine h
atlas_later T (Err (atlas.Table f)) old mid new fine h = fine_after old mid new fine h
atlas_later T (Err (atlas.Back place f)) old mid new fine h = fine_after old mid new fine h
atlas_later T (Err atlas.Failed) old mid new fine h =
    subst (λ (n : ℕ). Rose n new.faults) fine.faults h
atlas_later T (Err atlas.NoMemory) old mid new fine h = tt
