-- The faults of tables over several others that come from the store, from memory, from a file or
-- from the reader of rules.
use Rattle.std.specs.Prelude.{ℕ, Result, Ok, Err, ⊤}
use Rattle.frz_rules.specs.declared.fault.RulesError.{RulesError}
use Rattle.frz_rules.specs.declared.fault.RulesError.TheVariants as reading
use Rattle.frz_store.specs.Outside.{Rose}
use Rattle.frz_store.specs.Told.{StoreTold, StoreFine}
use Rattle.frz_store.specs.declared.outside.StoreFault.{StoreFault}
use Rattle.frz_table.specs.Faults.{fault_of as store_fault}
use Rattle.frz_table.specs.declared.fault.TableFault.{TableFault}
use Rattle.frz_table.specs.declared.fault.TableFault.TheVariants as table
use Rattle.frz_atlas.specs.declared.fault.AtlasFault.{AtlasFault}
use Rattle.frz_atlas.specs.declared.fault.AtlasFault.TheVariants.{Rules, Table, Back, Failed, NoMemory}
use Rattle.frz_atlas.specs.declared.fault.BackFault.{BackFault}
use Rattle.frz_atlas.specs.declared.fault.BackFault.TheVariants as one

abbrev pub rules_fault : RulesError → AtlasFault
rules_fault (reading.Bad fault) = Rules fault
rules_fault reading.NoMemory = NoMemory

-- the fault for a fault of the table's own file
abbrev pub table_fault : TableFault → AtlasFault
table_fault table.Failed = Failed
table_fault table.NoMemory = NoMemory
table_fault fault = Table fault

-- the fault for a fault of the store
abbrev pub fault_of : StoreFault → AtlasFault
fault_of outside = table_fault (store_fault outside)

-- the fault for a fault of the file behind it at this place
abbrev pub back_fault : ℕ → BackFault → AtlasFault
back_fault place (one.Refused table.Failed) = Failed
back_fault place (one.Refused table.NoMemory) = NoMemory
back_fault place fault = Back place fault

-- after a failure of the store, its count of faults is higher. Nothing is said where memory ran
-- out. With any other answer no call of the store was refused
abbrev pub IsFileCause : TableFault → StoreTold → StoreTold → Type 0
IsFileCause table.Failed old new = Rose old.faults new.faults
IsFileCause table.NoMemory old new = ⊤
IsFileCause fault old new = StoreFine old new

abbrev pub HasFileCause : {T : Type 0} → Result T TableFault → StoreTold → StoreTold → Type 0
HasFileCause (Err fault) old new = IsFileCause fault old new
HasFileCause (Ok x) old new = StoreFine old new

abbrev pub HasOneCause : {T : Type 0} → Result T BackFault → StoreTold → StoreTold → Type 0
HasOneCause (Err (one.Refused fault)) old new = IsFileCause fault old new
HasOneCause result old new = StoreFine old new

abbrev pub HasAtlasCause : {T : Type 0} → Result T AtlasFault → StoreTold → StoreTold → Type 0
HasAtlasCause (Err Failed) old new = Rose old.faults new.faults
HasAtlasCause (Err NoMemory) old new = ⊤
HasAtlasCause result old new = StoreFine old new
