-- What is known of the store, the input, the sink and the counter of steps, all in one record.
use Rattle.std.specs.Prelude.{◌≡◌, ℕ, ◌≤◌, List, length, take, drop, IfSome}
use Rattle.std.specs.Option.{option_map}
use Rattle.std.specs.Io.KnownBytes.{append_known}
use Rattle.frz_store.specs.Bytes.{MayBeHeld}
use Rattle.frz_store.specs.Files.{Files}
use Rattle.frz_store.specs.Told.{StoreTold, SourceTold, SinkTold, store_of, source_of, sink_of, Unwritten, StoreLater, StoreFine}
use Rattle.frz_store.specs.declared.outside.Store.{Ghosts as StoreGhosts}
use Rattle.frz_store.specs.declared.outside.Source.{Ghosts as SourceGhosts}
use Rattle.frz_store.specs.declared.outside.Sink.{Ghosts as SinkGhosts}

pub record World : Type 0 where
  pub store : StoreTold
  pub input : SourceTold
  pub out : SinkTold
  pub steps : ℕ

abbrev pub world : StoreTold → SourceTold → SinkTold → ℕ → World
world store input out steps = record { store = store; input = input; out = out; steps = steps }

abbrev pub world_of : {A B C : Type 0} → StoreGhosts A → SourceGhosts B → SinkGhosts C →
    A → B → C → ℕ → World
world_of s i o store input out steps =
    world (store_of s store) (source_of i input) (sink_of o out) steps

-- what was spent until now: the steps made, the calls of the
-- store and the bytes asked of it
pub record Spent : Type 0 where
  pub steps : ℕ
  pub calls : ℕ
  pub asked : ℕ

abbrev pub spent_by : StoreTold → (steps : ℕ) → Spent
spent_by store steps = record { steps = steps; calls = store.calls; asked = store.asked }

abbrev pub spent : World → Spent
spent w = spent_by w.store w.steps

-- these may be the files in the store and the bytes that the input has left. Where it is known what
-- they are, it is these; where the store's files are not known, any files of bytes agree
pub record Agrees (w : World) (files : Files) (input : List ℕ) : Type 0 where
  pub store : MayBeHeld w.store.files files
  pub source : IfSome w.input.left (λ told. told ≡ input)

-- no count has fallen
pub record Later (old new : World) : Type 0 where
  pub store : StoreLater old.store new.store
  pub input : old.input.faults ≤ new.input.faults
  pub out : old.out.faults ≤ new.out.faults
  pub steps : old.steps ≤ new.steps

-- neither store, input nor sink has failed
pub record Fine (old new : World) : Type 0 where
  pub store : StoreFine old.store new.store
  pub input : new.input.faults ≡ old.input.faults
  pub out : new.out.faults ≡ old.out.faults

-- nothing was written, and nothing taken of the input: only counts may have risen
pub record Quiet (old new : World) : Type 0 where
  pub later : Later old new
  pub store : Unwritten old.store new.store
  pub left : new.input.left ≡ old.input.left
  pub taken : new.out.taken ≡ old.out.taken

-- the sink took this text, these bytes were taken from the input, and nothing was written to the
-- store
pub record Came (text bytes : List ℕ) (old new : World) : Type 0 where
  pub later : Later old new
  pub fine : Fine old new
  pub store : Unwritten old.store new.store
  pub took : IfSome old.input.left (λ left. take (length bytes) left ≡ bytes)
  pub left : new.input.left ≡ option_map (drop (length bytes)) old.input.left
  pub taken : new.out.taken ≡ append_known old.out.taken text
