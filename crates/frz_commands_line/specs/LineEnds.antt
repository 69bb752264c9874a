-- How the command ends after a line was played.
use Rattle.std.specs.Prelude.{◌≡◌, ℕ, List, [], Result, Ok, Err, codes}
use Rattle.frz_store.specs.Told.{SinkTold}
use Rattle.frz_answer.specs.declared.status.Status.{Status}
use Rattle.frz_answer.specs.declared.status.Status.TheVariants.{Success, Wrong, Outside}
use Rattle.frz_answer.specs.declared.fault.Fault.TheVariants.{Store, NoMemory}
use Rattle.frz_answer.specs.declared.end.End.{End}
use Rattle.frz_answer.specs.declared.end.End.TheVariants.{SinkFault, Stopped}
use Rattle.frz_answer.specs.Ends.{Said}
use Rattle.frz_prelude.specs.Refusals.{refusal_line}
use Rattle.frz_prelude.specs.WrongLines.{wrong_line}
use Rattle.frz_prelude.specs.declared.refused.Refused.TheVariants as refusals
use Rattle.frz_ways.specs.declared.end.LineEnd.{LineEnd}
use Rattle.frz_ways.specs.declared.end.LineFault.{LineFault}
use Rattle.frz_ways.specs.declared.end.LineFault.TheVariants as faults

-- the status, by what the line answers
abbrev pub end_status : Result LineEnd LineFault → Status
end_status (Ok end) = Success
end_status (Err (faults.Wrong wrong)) = Wrong
end_status (Err fault) = Outside

-- the line of text for an end for which the line itself writes nothing
abbrev pub naming_line : Result LineEnd LineFault → List ℕ
naming_line (Err faults.Outside) = refusal_line refusals.Outside
naming_line (Err faults.NoBound) = codes "no bound\n"
naming_line (Err (faults.Wrong wrong)) = wrong_line wrong
naming_line answer = []

-- an end for which the line itself writes nothing is named. A fault of the store, the memory or the
-- output is not named here, but behind the command
abbrev pub EndsLine : Result LineEnd LineFault → End → SinkTold → SinkTold → Type 0
EndsLine (Err faults.Store) end old new = (end ≡ Stopped Store) × (new ≡ old)
EndsLine (Err faults.NoMemory) end old new = (end ≡ Stopped NoMemory) × (new ≡ old)
EndsLine (Err faults.Output) end old new = (end ≡ SinkFault) × (new ≡ old)
EndsLine answer end old new = Said (end_status answer) (naming_line answer) end old new
