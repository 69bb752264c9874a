-- A text that the sink takes whole, or fails within.
use Rattle.std.specs.Prelude.{◌≡◌, ℕ, ◌≤◌, List, take, Result, OnOk, OnErr}
use Rattle.std.specs.Io.KnownBytes.{append_known}
use Rattle.frz_store.specs.Outside.{Rose}
use Rattle.frz_store.specs.Told.{SinkTold}

-- the sink took the whole text
pub record TookText (text : List ℕ) (old new : SinkTold) : Type 0 where
  pub faults : new.faults ≡ old.faults
  pub taken : new.taken ≡ append_known old.taken text

-- the sink failed, and took a text that begins this one
pub record FailedWithin (text : List ℕ) (old new : SinkTold) : Type 0 where
  pub later : old.faults ≤ new.faults
  pub rose : Rose old.faults new.faults
  pub taken : (k : ℕ) × (new.taken ≡ append_known old.taken (take k text))

-- the text was written, or the sink failed within it
pub record WroteText {T E : Type 0}
    (text : List ℕ) (result : Result T E) (old new : SinkTold) : Type 0 where
  pub ok : OnOk result (TookText text old new)
  pub failed : OnErr result (FailedWithin text old new)
