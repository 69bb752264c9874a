-- That a calculation was run on a store, and how the run ended.
use Rattle.std.specs.Prelude.{◌≡◌, ◌⊎◌, ◌≤◌, ◌+◌, ℕ, List, Option, Some, IfSome, Result, Ok, Err}
use Rattle.frz_store.specs.Files.{Files}
use Rattle.frz_store.specs.Outside.{Rose}
use Rattle.frz_store.specs.Told.{StoreTold, StoreQuiet, StoreFine}
use Rattle.frz_store.specs.declared.outside.StoreFault.{StoreFault}
use Rattle.frz_store.specs.declared.outside.StoreFault.TheVariants.{Failed, NoMemory}
use Rattle.frz_asks.specs.Traces.{Trace, calls_in, bytes_asked, next_calls, next_bytes, WantsMemory}
use Rattle.frz_asks.specs.Trees.{Question, Asks, gives, size_in}

-- the run came to its end and gave this, or was halted
pub data End (A : Type 0) : Type 0 where
  came : A → End A
  halted : StoreFault → End A

-- why a calculation has no result: what it read is refused, or the run was halted
pub data Stop (E : Type 0) : Type 0 where
  refused : E → Stop E
  stopped : StoreFault → Stop E

-- the end of a run that the result of a function tells, of which a view counts: where it does not
-- refuse, and where its errors are refusals and faults
abbrev pub end_by : {A B : Type 0} → (A → B) → Result A StoreFault → End B
end_by view (Ok a) = came (view a)
end_by view (Err h) = halted h

abbrev pub stop_end : {A E : Type 0} → Stop E → End (Result A E)
stop_end (refused e) = came (Err e)
stop_end (stopped h) = halted h

abbrev pub end_of : {A B E : Type 0} → (E → Stop E) → (A → B) → Result A E → End (Result B E)
end_of stop view (Ok a) = came (Ok (view a))
end_of stop view (Err e) = stop_end (stop e)

-- if the store tells, the file has this length
abbrev pub Sized : Option Files → List ℕ → ℕ → Type 0
Sized files name n = IfSome files (λ m. size_in m name ≡ Some n)

-- what is left is the result, and no call failed; or the store failed; or the store wanted memory,
-- or the calculation did
abbrev pub EndsAt : {A : Type 0} → Asks A → End A → StoreTold → StoreTold → Type 0
EndsAt rest (came a) old new = (rest ≡ gives a) × StoreFine old new
EndsAt rest (halted Failed) old new = Rose old.faults new.faults
EndsAt rest (halted NoMemory) old new = Rose old.wants new.wants ⊎ WantsMemory rest

-- the calculation was run: the store answered so, nothing was written, each question took one call
-- of the store, if it is one to it, and so did the question that was open at the end
pub record Run {A : Type 0} (p : Asks A) (end : End A) (old new : StoreTold) : Type 0 where
  pub seen : List Question
  pub rest : Asks A
  pub trace : Trace old.files seen p rest
  pub ends : EndsAt rest end old new
  pub quiet : StoreQuiet old new
  pub calls : new.calls ≤ old.calls + (calls_in seen + next_calls rest)
  pub asked : new.asked ≤ old.asked + (bytes_asked seen + next_bytes rest)
