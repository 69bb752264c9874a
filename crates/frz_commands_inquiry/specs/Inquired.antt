-- What was answered to the lines of an input, and how much of it was taken.
use Rattle.std.specs.Prelude.{◌≡◌, ◌≤◌, ◌++◌, ℕ, Bool, true, List, [], length, Result, Ok, Err}
use Rattle.frz_store.specs.Told.{SinkTold, SourceTold}
use Rattle.frz_answer.specs.Answers.{IsLines}
use Rattle.frz_answer.specs.Texts.{FailedWithin, TookText}
use Rattle.frz_ways.specs.Hearing.{HasEnded}
use Rattle.frz_ways.specs.SessionFaults.{InputFailed, TookBytes}
use Rattle.frz_commands_inquiry.specs.declared.inquiring.Broken.{Broken}
use Rattle.frz_commands_inquiry.specs.declared.inquiring.Broken.TheVariants.{Input, Output}
use Rattle.frz_commands_inquiry.specs.declared.inquiring.Halt.{Halt}
use Rattle.frz_commands_inquiry.specs.declared.inquiring.TheConstants.{MOST_LINES}
use Rattle.frz_commands_inquiry.specs.Inquiries.{Inquiry, inquiry}

-- the sink took the text, or failed within it
abbrev pub Wrote : Result Halt Broken → (text : List ℕ) → SinkTold → SinkTold → Type 0
Wrote (Err Output) text old new = FailedWithin text old new
Wrote result text old new = TookText text old new

-- the count of the input's faults has risen where it failed, and else it is as it was
abbrev pub InputCause : Result Halt Broken → SourceTold → SourceTold → Type 0
InputCause (Err Input) old new = InputFailed old new
InputCause result old new = new.faults ≡ old.faults

-- all was answered, or the text begins what was to be answered, and no more was taken
abbrev pub IsAnswered : Result Halt Broken → (text bytes : List ℕ) → Inquiry → Type 0
IsAnswered (Ok halt) text bytes told =
    told ≡ record { text = text; halt = halt; taken = length bytes }
IsAnswered (Err broken) text bytes told =
    ((more : List ℕ) × (text ++ more ≡ told.text)) × (length bytes ≤ told.taken)

-- the text and the bytes are those of the inquiry, whatever follows these bytes in the input:
-- nothing, if the input was seen to end
pub record Inquired (reply : List ℕ → List ℕ) (result : Result Halt Broken)
    (source left : SourceTold) (out taken : SinkTold) : Type 0 where
  pub text : List ℕ
  pub bytes : List ℕ
  pub lines : IsLines text
  pub wrote : Wrote result text out taken
  pub took : TookBytes bytes source left
  pub over : Bool
  pub ended : over ≡ true → HasEnded left
  pub told : (rest : List ℕ) → (over ≡ true → rest ≡ []) →
      IsAnswered result text bytes (inquiry reply MOST_LINES (bytes ++ rest))
