-- One name that is written, from front to back.
use Rattle.std.specs.Prelude.{◌≡◌, ◌⊎◌, ℕ, List, take, Some, OnSome, Result, Ok, Err, OnOk, OnErr}
use Rattle.std.specs.Option.{option_map}
use Rattle.frz_store.specs.Files.{put, grown}
use Rattle.frz_store.specs.Outside.{Rose, HasCause}
use Rattle.frz_store.specs.Told.{StoreTold, StoreLater, StoreQuiet, StoreFine}
use Rattle.frz_store.specs.declared.outside.StoreFault.{StoreFault}
use Rattle.frz_store.specs.declared.outside.StoreFault.TheVariants.{Failed, NoMemory}

-- the name was created and holds these bytes, and every other name is as before
pub record Wrote (name bytes : List ℕ) (old new : StoreTold) : Type 0 where
  pub files : new.files ≡ option_map (λ m. put m name bytes) old.files
  pub last : OnSome old.files (new.last ≡ Some name)
  pub later : StoreLater old new

-- the name is as before or holds a prefix of these bytes, and every other name is as before
pub record WrotePart (name whole : List ℕ) (old new : StoreTold) : Type 0 where
  pub files : (new.files ≡ old.files)
      ⊎ ((k : ℕ) × (new.files ≡ option_map (λ m. put m name (take k whole)) old.files))
  pub later : StoreLater old new

-- how much of these bytes was written under the name: all of them, a front part if the store
-- failed, and nothing if there was no memory
abbrev pub Written : {T : Type 0} → List ℕ → List ℕ → Result T StoreFault → StoreTold → StoreTold
    → Type 0
Written name bytes (Ok _) old new = Wrote name bytes old new × StoreFine old new
Written name bytes (Err Failed) old new = WrotePart name bytes old new × Rose old.faults new.faults
Written name bytes (Err NoMemory) old new = StoreQuiet old new

-- the bytes were appended to the file that was created last, or a front part of them if the store
-- failed
pub record Appended {T E : Type 0} (bytes : List ℕ) (result : Result T E)
    (old new : StoreTold) : Type 0 where
  pub files : OnOk result (new.files ≡ option_map (grown old.last bytes) old.files)
  pub failed_files : OnErr result
      ((k : ℕ) × (new.files ≡ option_map (grown old.last (take k bytes)) old.files))
  pub last : new.last ≡ old.last
  pub later : StoreLater old new
  pub wants : new.wants ≡ old.wants
  pub cause : HasCause old.faults new.faults result
