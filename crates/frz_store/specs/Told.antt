-- What a store, a source and a sink tell, each in one record, and how it may change.
use Rattle.std.specs.Prelude.{◌≡◌, ℕ, ◌≤◌, List, Option, Result, OnOk, OnErr}
use Rattle.std.specs.Result.{IsErrOf}
use Rattle.std.specs.Option.{option_map}
use Rattle.frz_store.specs.Files.{Files, put}
use Rattle.frz_store.specs.declared.outside.Store.{Ghosts as StoreGhosts}
use Rattle.frz_store.specs.declared.outside.Source.{Ghosts as SourceGhosts}
use Rattle.frz_store.specs.declared.outside.Sink.{Ghosts as SinkGhosts}
use Rattle.frz_store.specs.declared.outside.StoreFault.{StoreFault}
use Rattle.frz_store.specs.declared.outside.StoreFault.TheVariants.{Failed}

pub record StoreTold : Type 0 where
  pub files : Option Files
  pub last : Option (List ℕ)
  pub room : ℕ
  pub asked : ℕ
  pub calls : ℕ
  pub faults : ℕ
  pub wants : ℕ

pub record SourceTold : Type 0 where
  pub left : Option (List ℕ)
  pub faults : ℕ

pub record SinkTold : Type 0 where
  pub taken : Option (List ℕ)
  pub faults : ℕ

-- what an object tells, by the ghost members of its trait; it is written `store_of S.Store` where S
-- is a type parameter
abbrev pub store_of : {A : Type 0} → StoreGhosts A → A → StoreTold
store_of g s = record {
  files = g.files s;
  last = g.last s;
  room = g.room s;
  asked = g.asked s;
  calls = g.calls s;
  faults = g.faults s;
  wants = g.wants s;
}

abbrev pub source_of : {A : Type 0} → SourceGhosts A → A → SourceTold
source_of g s = record { left = g.left s; faults = g.faults s }

abbrev pub sink_of : {A : Type 0} → SinkGhosts A → A → SinkTold
sink_of g s = record { taken = g.taken s; faults = g.faults s }

-- nothing was written to the store
pub record Unwritten (old new : StoreTold) : Type 0 where
  pub files : new.files ≡ old.files
  pub last : new.last ≡ old.last
  pub room : new.room ≡ old.room

-- no count of the store has fallen
pub record StoreLater (old new : StoreTold) : Type 0 where
  pub asked : old.asked ≤ new.asked
  pub calls : old.calls ≤ new.calls
  pub faults : old.faults ≤ new.faults
  pub wants : old.wants ≤ new.wants

-- the store may have been called, but nothing was written
pub record StoreQuiet (old new : StoreTold) : Type 0 where
  pub unwritten : Unwritten old new
  pub later : StoreLater old new

-- no call of the store has raised the count of faults or of wants
pub record StoreFine (old new : StoreTold) : Type 0 where
  pub faults : new.faults ≡ old.faults
  pub wants : new.wants ≡ old.wants

-- the bytes were put under the name, or there was no memory and nothing is new; it does not count
-- as a call of the store
pub record IsPut {T : Type 0} (name bytes : List ℕ) (result : Result T StoreFault)
    (old new : StoreTold) : Type 0 where
  pub files : OnOk result (new.files ≡ option_map (λ m. put m name bytes) old.files)
  pub no_memory : OnErr result (new.files ≡ old.files)
  pub never_failed : IsErrOf result Failed → ⊥
  pub last : new.last ≡ old.last
  pub room : new.room ≡ old.room
  pub asked : new.asked ≡ old.asked
  pub calls : new.calls ≡ old.calls
  pub faults : new.faults ≡ old.faults
  pub wants : new.wants ≡ old.wants
