-- What stops a command before it can reply, with what cause, and how the command ends then.
use Rattle.std.specs.Prelude.{◌≡◌, ⊤, Result, Ok, Err}
use Rattle.frz_store.specs.Outside.{Rose}
use Rattle.frz_store.specs.Told.{StoreTold, SinkTold, StoreFine}
use Rattle.frz_store.specs.declared.outside.StoreFault.{StoreFault}
use Rattle.frz_store.specs.declared.outside.StoreFault.TheVariants as refusal
use Rattle.frz_table.specs.declared.fault.TableFault.{TableFault}
use Rattle.frz_table.specs.declared.fault.TableFault.TheVariants as table
use Rattle.frz_answer.specs.declared.fault.Fault.{Fault as Faults}
use Rattle.frz_answer.specs.declared.fault.Fault.TheVariants as faults
use Rattle.frz_answer.specs.declared.end.End.{End}
use Rattle.frz_answer.specs.declared.end.End.TheVariants.{Stopped}
use Rattle.frz_answer.specs.Ends.{Said}
use Rattle.frz_prelude.specs.Refusals.{status_of, refusal_line}
use Rattle.frz_prelude.specs.declared.refused.Refused.{Refused as Refusal}
use Rattle.frz_prelude.specs.declared.refused.Refused.TheVariants as refusals
use Rattle.frz_prelude.specs.declared.stop.Stop.{Stop}
use Rattle.frz_prelude.specs.declared.stop.Stop.TheVariants.{Refused, Fault}

-- how a fault of the store ends the command
abbrev pub stop_of_fault : StoreFault → Stop
stop_of_fault refusal.Failed = Fault faults.Store
stop_of_fault refusal.NoMemory = Fault faults.NoMemory

-- how a table that was not opened ends the command
abbrev pub stop_of_table : TableFault → Stop
stop_of_table table.Failed = Fault faults.Store
stop_of_table table.NoMemory = Fault faults.NoMemory
stop_of_table fault = Refused (refusals.Table fault)

-- the result is the one that is due, unless a fault stopped the call
abbrev pub Answers : {A : Type 0} → Result A Stop → Result A Refusal → Type 0
Answers (Ok x) due = due ≡ Ok x
Answers (Err (Refused why)) due = due ≡ Err why
Answers (Err (Fault fault)) due = ⊤

-- if a fault stopped the call, it was want of memory
abbrev pub WantsMemoryAlone : {A : Type 0} → Result A Stop → Type 0
WantsMemoryAlone (Err (Fault fault)) = fault ≡ faults.NoMemory
WantsMemoryAlone result = ⊤

-- the cause of a fault: at a fault of the store its count has risen, a fault of the input cannot
-- come, and of want of memory nothing is said
abbrev pub IsMet : Faults → StoreTold → StoreTold → Type 0
IsMet faults.Store old new = Rose old.faults new.faults
IsMet faults.Input old new = ⊥
IsMet faults.NoMemory old new = ⊤

-- a fault that stopped the call has its cause; without one the store has not failed
abbrev pub HasItsCause : {A : Type 0} → Result A Stop → StoreTold → StoreTold → Type 0
HasItsCause (Err (Fault fault)) old new = IsMet fault old new
HasItsCause result old new = StoreFine old new

-- how the command ends: a refusal writes its line, and a fault nothing
abbrev pub EndsBy : Stop → End → SinkTold → SinkTold → Type 0
EndsBy (Refused why) end old new = Said (status_of why) (refusal_line why) end old new
EndsBy (Fault fault) end old new = (end ≡ Stopped fault) × (new ≡ old)
