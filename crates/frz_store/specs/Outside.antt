-- Why a call of a store, a source or a sink may refuse, and what a read takes.
use Rattle.std.specs.Prelude.{◌≡◌, ℕ, ◌+◌, ◌-◌, ◌^◌, ◌≤◌, min, List, [], length, take, Result, OnOk, OnErr}
use Rattle.std.specs.Result.{IsErrOf}
use Rattle.frz_store.specs.declared.outside.StoreFault.{StoreFault}
use Rattle.frz_store.specs.declared.outside.StoreFault.TheVariants.{Failed, NoMemory}

-- one more, at most 2^64 - 1
abbrev pub counted : ℕ → ℕ
counted n = min (n + 1) (2 ^ 64 - 1)

-- the count has gone up by one, or stands at 2^64 - 1
pub record IsNext (before now : ℕ) : Type 0 where
  pub next : now ≡ counted before
  pub later : before ≤ now

-- the count has risen, or stands at 2^64 - 1
abbrev pub Rose : ℕ → ℕ → Type 0
Rose before now = counted before ≤ now

-- no count falls, and success changes none; `Failed` has raised the count of faults, and `NoMemory`
-- that of wants
pub record StoreCauses {T : Type 0} (faults_before faults_now wants_before wants_now : ℕ)
    (result : Result T StoreFault) : Type 0 where
  pub later : faults_before ≤ faults_now
  pub wants_later : wants_before ≤ wants_now
  pub fine : OnOk result (faults_now ≡ faults_before)
  pub wants_fine : OnOk result (wants_now ≡ wants_before)
  pub failed : IsErrOf result Failed → Rose faults_before faults_now
  pub no_memory : IsErrOf result NoMemory → Rose wants_before wants_now

-- no count falls, and success changes none; `Failed` has raised the count of faults, and `NoMemory`
-- need not have raised any
pub record FreeCauses {T : Type 0} (faults_before faults_now wants_before wants_now : ℕ)
    (result : Result T StoreFault) : Type 0 where
  pub later : faults_before ≤ faults_now
  pub wants_later : wants_before ≤ wants_now
  pub fine : OnOk result (faults_now ≡ faults_before)
  pub wants_fine : OnOk result (wants_now ≡ wants_before)
  pub failed : IsErrOf result Failed → Rose faults_before faults_now

-- the count of faults does not fall; success does not change it, and each error has raised it
pub record HasCause {T E : Type 0} (faults_before faults_now : ℕ)
    (result : Result T E) : Type 0 where
  pub later : faults_before ≤ faults_now
  pub fine : OnOk result (faults_now ≡ faults_before)
  pub failed : OnErr result (Rose faults_before faults_now)

-- the first n of these bytes stand at the front of the buffer, and n is 0 only if there are none
pub record Took (buffer : List ℕ) (n : ℕ) (bytes : List ℕ) : Type 0 where
  pub front : take n buffer ≡ take n bytes
  pub within : n ≤ length bytes
  pub end : n ≡ 0 → bytes ≡ []
