-- The causes of the faults of a chain.
use Rattle.std.proofs.Common.{subst, ℕ, Result, Ok, Err}
use Rattle.frz_store.specs.Outside.{Rose}
use Rattle.frz_store.specs.Told.{StoreTold, StoreFine}
use Rattle.frz_table.proofs.Lemmas.{fine_after}
use Rattle.frz_chain.specs.Causes.{HasChainCause}
use Rattle.frz_chain.specs.declared.fault.ChainFault.{ChainFault}
use Rattle.frz_chain.specs.declared.fault.ChainFault.TheVariants as chain

-- calls before that succeeded change no cause
pub chain_later : (T : Type 0) (result : Result T ChainFault) (old mid new : StoreTold)
    → StoreFine old mid
    → HasChainCause result mid new → HasChainCause result old new
chain_later T (Ok x) old mid new fine h = fine_after old mid new fine h
chain_later T (Err (chain.Rules f)) old mid new fine h = fine_after old mid new fine h
chain_later T (Err (chain.Table f)) old mid new fine h = fine_after old mid new fine h
chain_later T (Err (chain.Back f)) old mid new fine h = fine_after old mid new fine h
chain_later T (Err (chain.BackWrong w)) old mid new fine h = fine_after old mid new fine h
chain_later T (Err chain.Failed) old mid new fine h =
    subst (λ (n : ℕ). Rose n new.faults) fine.faults h
chain_later T (Err chain.NoMemory) old mid new fine h = tt
