-- How a fault of a chain stops a command: a refusal, or a fault of the store or of memory.
use Rattle.frz_answer.specs.declared.fault.Fault.TheVariants as faults
use Rattle.frz_chain.specs.declared.fault.ChainFault.{ChainFault}
use Rattle.frz_chain.specs.declared.fault.ChainFault.TheVariants as chain
use Rattle.frz_prelude.specs.declared.refused.Refused.TheVariants as refusals
use Rattle.frz_prelude.specs.declared.stop.Stop.{Stop}
use Rattle.frz_prelude.specs.declared.stop.Stop.TheVariants.{Refused, Fault}

abbrev pub stop_of_chain : ChainFault → Stop
stop_of_chain (chain.Rules fault) = Refused (refusals.Rules fault)
stop_of_chain (chain.Table fault) = Refused (refusals.Table fault)
stop_of_chain (chain.Back fault) = Refused (refusals.Back fault)
stop_of_chain (chain.BackWrong wrong) = Refused (refusals.BackWrong wrong)
stop_of_chain chain.Failed = Fault faults.Store
stop_of_chain chain.NoMemory = Fault faults.NoMemory
