-- The faults of a chain that come from the store, from memory,
-- from a file or from the reader of rules.
use Rattle.std.specs.Prelude.{Result, Err, ⊤}
use Rattle.frz_rules.specs.declared.fault.RulesError.{RulesError}
use Rattle.frz_rules.specs.declared.fault.RulesError.TheVariants as reading
use Rattle.frz_store.specs.Outside.{Rose}
use Rattle.frz_store.specs.Told.{StoreTold, StoreFine}
use Rattle.frz_store.specs.declared.outside.StoreFault.{StoreFault}
use Rattle.frz_table.specs.Faults.{fault_of as store_fault}
use Rattle.frz_table.specs.declared.fault.TableFault.{TableFault}
use Rattle.frz_table.specs.declared.fault.TableFault.TheVariants as table
use Rattle.frz_chain.specs.declared.fault.ChainFault.{ChainFault}
use Rattle.frz_chain.specs.declared.fault.ChainFault.TheVariants.{Rules, Table, Back, Failed, NoMemory}

abbrev pub rules_fault : RulesError → ChainFault
rules_fault (reading.Bad fault) = Rules fault
rules_fault reading.NoMemory = NoMemory

-- the fault of a chain for a fault of the table's file
abbrev pub table_fault : TableFault → ChainFault
table_fault table.Failed = Failed
table_fault table.NoMemory = NoMemory
table_fault fault = Table fault

-- the fault of a chain for a fault of the store
abbrev pub fault_of : StoreFault → ChainFault
fault_of outside = table_fault (store_fault outside)

-- the fault of a chain for a fault of the back table's file
abbrev pub back_fault : TableFault → ChainFault
back_fault table.Failed = Failed
back_fault table.NoMemory = NoMemory
back_fault fault = Back fault

-- `Failed` has raised the count of faults, `NoMemory` need not have raised any, and with any other
-- answer no call of the store was refused
abbrev pub HasChainCause : {T : Type 0} → Result T ChainFault → StoreTold → StoreTold → Type 0
HasChainCause (Err Failed) old new = Rose old.faults new.faults
HasChainCause (Err NoMemory) old new = ⊤
HasChainCause result old new = StoreFine old new

-- the store failed, or there was no memory
abbrev pub IsOutsideFault : ChainFault → Type 0
IsOutsideFault Failed = ⊤
IsOutsideFault NoMemory = ⊤
IsOutsideFault fault = ⊥
