-- How a fault of a chain stops a command: with its cause, and with which status.
use Rattle.std.proofs.Common.{subst, ℕ, Err}
use Rattle.frz_store.specs.Outside.{Rose}
use Rattle.frz_store.specs.Told.{StoreTold, StoreFine}
use Rattle.frz_table.proofs.Lemmas.{fine_after}
use Rattle.frz_prelude.specs.Stops.{HasItsCause}
use Rattle.frz_chain.specs.Causes.{HasChainCause}
use Rattle.frz_chain.specs.declared.fault.ChainFault.{ChainFault}
use Rattle.frz_chain.specs.declared.fault.ChainFault.TheVariants as chain
use Rattle.frz_commands_chain.specs.Stops.{stop_of_chain}

-- a fault that was met after calls that succeeded has its cause
pub chain_cause : (T A : Type 0) (fault : ChainFault) (old mid new : StoreTold) → StoreFine old mid
    → HasChainCause {T = T} (Err fault) mid new
    → HasItsCause {A = A} (Err (stop_of_chain fault)) old new
chain_cause T A (chain.Rules fault) old mid new fine h = fine_after old mid new fine h
chain_cause T A (chain.Table fault) old mid new fine h = fine_after old mid new fine h
chain_cause T A (chain.Back fault) old mid new fine h = fine_after old mid new fine h
chain_cause T A (chain.BackWrong wrong) old mid new fine h = fine_after old mid new fine h
chain_cause T A chain.Failed old mid new fine h = subst (λ (n : ℕ). Rose n new.faults) fine.faults h
chain_cause T A chain.NoMemory old mid new fine h = tt
