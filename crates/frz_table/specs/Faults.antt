-- The faults of a table that come from the store, from memory or from the reader of rules.
use Rattle.std.specs.Prelude.{◌≡◌, ℕ, ◌≤◌, Option, None, Some, Result, OnOk, IfErr, ⊤}
use Rattle.std.specs.Result.{IsErrOf}
use Rattle.frz_asks.specs.Runs.{Stop, refused, stopped}
use Rattle.frz_rules.specs.declared.fault.RulesError.{RulesError}
use Rattle.frz_rules.specs.declared.fault.RulesError.TheVariants as reading
use Rattle.frz_store.specs.Outside.{Rose}
use Rattle.frz_store.specs.declared.outside.StoreFault.{StoreFault}
use Rattle.frz_store.specs.declared.outside.StoreFault.TheVariants as store
use Rattle.frz_table.specs.declared.fault.TableFault.{TableFault}
use Rattle.frz_table.specs.declared.fault.TableFault.TheVariants.{Magic, Other, Rules, Failed, NoMemory}
use Rattle.frz_table.specs.declared.other.OtherFile.{OtherFile}

abbrev pub fault_of : StoreFault → TableFault
fault_of store.Failed = Failed
fault_of store.NoMemory = NoMemory

abbrev pub rules_fault : RulesError → TableFault
rules_fault (reading.Bad fault) = Rules fault
rules_fault reading.NoMemory = NoMemory

-- the fault of a file whose first eight bytes are not due, by what else it is
abbrev pub magic_fault : Option OtherFile → TableFault
magic_fault None = Magic
magic_fault (Some other) = Other other

-- the store failed, or there was no memory
abbrev pub IsOutside : TableFault → Type 0
IsOutside Failed = ⊤
IsOutside NoMemory = ⊤
IsOutside fault = ⊥

-- what a fault says of a run: the file is refused, or the run was halted
abbrev pub stop_of : TableFault → Stop TableFault
stop_of Failed = stopped store.Failed
stop_of NoMemory = stopped store.NoMemory
stop_of fault = refused fault

-- P holds if the fault is of the file itself, not of the store or of memory
abbrev pub UnlessOutside : TableFault → Type 0 → Type 0
UnlessOutside Failed P = ⊤
UnlessOutside NoMemory P = ⊤
UnlessOutside fault P = P

-- neither count falls, and success or a fault of the file changes none; `Failed` has raised the
-- count of faults, and `NoMemory` need not have raised any
pub record TableCauses {T : Type 0} (faults_before faults_now wants_before wants_now : ℕ)
    (result : Result T TableFault) : Type 0 where
  pub later : faults_before ≤ faults_now
  pub wants_later : wants_before ≤ wants_now
  pub fine : OnOk result (faults_now ≡ faults_before)
  pub wants_fine : OnOk result (wants_now ≡ wants_before)
  pub refused : IfErr result (λ fault. UnlessOutside fault (faults_now ≡ faults_before))
  pub wants_refused : IfErr result (λ fault. UnlessOutside fault (wants_now ≡ wants_before))
  pub failed : IsErrOf result Failed → Rose faults_before faults_now
