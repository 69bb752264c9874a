-- How the command ends once no more lines are answered.
use Rattle.std.specs.Prelude.{◌≡◌, ℕ, List, Result, Ok, Err}
use Rattle.frz_store.specs.Told.{SinkTold, SourceTold}
use Rattle.frz_answer.specs.declared.end.End.{End}
use Rattle.frz_answer.specs.declared.end.End.TheVariants.{SinkFault, Stopped}
use Rattle.frz_answer.specs.declared.fault.Fault.TheVariants as faults
use Rattle.frz_answer.specs.Ends.{Said}
use Rattle.frz_commands_inquiry.specs.declared.inquiring.Broken.{Broken}
use Rattle.frz_commands_inquiry.specs.declared.inquiring.Broken.TheVariants.{Input, Output}
use Rattle.frz_commands_inquiry.specs.declared.inquiring.Halt.{Halt}
use Rattle.frz_commands_inquiry.specs.Inquired.{Inquired, InputCause}
use Rattle.frz_commands_inquiry.specs.Inquiries.{halt_line, halt_status}

-- the last line is written; a fault of the input or of the sink is not named here
abbrev pub EndsInquiry : Result Halt Broken → End → SinkTold → SinkTold → Type 0
EndsInquiry (Ok halt) end old new = Said (halt_status halt) (halt_line halt) end old new
EndsInquiry (Err Input) end old new = (end ≡ Stopped faults.Input) × (new ≡ old)
EndsInquiry (Err Output) end old new = (end ≡ SinkFault) × (new ≡ old)

-- the lines were answered, and then the command ended
pub record RunsInquiry (reply : List ℕ → List ℕ) (end : End) (source left : SourceTold)
    (out taken : SinkTold) : Type 0 where
  pub answered : Result Halt Broken
  pub mid : SinkTold
  pub inquired : Inquired reply answered source left out mid
  pub cause : InputCause answered source left
  pub ends : EndsInquiry answered end mid taken
