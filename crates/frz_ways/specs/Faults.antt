-- The faults of a line, and what each leaves of the sink and the store.
use Rattle.std.specs.Prelude.{List, ℕ, Result, Err}
use Rattle.frz_store.specs.Outside.{Rose}
use Rattle.frz_store.specs.Told.{StoreTold, SinkTold, StoreFine}
use Rattle.frz_store.specs.declared.outside.StoreFault.{StoreFault}
use Rattle.frz_store.specs.declared.outside.StoreFault.TheVariants.{Failed, NoMemory}
use Rattle.frz_answer.specs.Texts.{TookText, FailedWithin}
use Rattle.frz_ways.specs.declared.end.LineFault.{LineFault}
use Rattle.frz_ways.specs.declared.end.LineFault.TheVariants as faults

abbrev pub fault_of : StoreFault → LineFault
fault_of Failed = faults.Store
fault_of NoMemory = faults.NoMemory

-- the sink failed within the text, where that is the fault, and else took all of the text
abbrev pub WroteBy : {T : Type 0} → Result T LineFault → List ℕ → SinkTold → SinkTold → Type 0
WroteBy (Err faults.Output) text old new = FailedWithin text old new
WroteBy result text old new = TookText text old new

-- a fault of the store has raised its count there; any other answer left both counts as they were
abbrev pub StoreCause : {T : Type 0} → Result T LineFault → StoreTold → StoreTold → Type 0
StoreCause (Err faults.Store) old new = Rose old.faults new.faults
StoreCause (Err faults.NoMemory) old new = Rose old.wants new.wants
StoreCause result old new = StoreFine old new
