-- What is written and answered of a failing way.
use Rattle.std.specs.Prelude.{◌≡◌, ℕ, List, Result, IfOk}
use Rattle.frz_board.specs.declared.man.Colour.{Colour}
use Rattle.frz_board.specs.Moving.{Step}
use Rattle.frz_sets.specs.declared.exit.Value.{Value}
use Rattle.frz_store.specs.declared.outside.Failed.{Failed}
use Rattle.frz_store.specs.Told.{SinkTold}
use Rattle.frz_answer.specs.Texts.{WroteText}
use Rattle.frz_arena.specs.declared.arm.Arm.{Arm}
use Rattle.frz_arena.specs.Arena.{Arena}
use Rattle.frz_reasons.specs.declared.reason.Reason.{Reason}
use Rattle.frz_reasons.specs.FailingWays.{FailsFrom}
use Rattle.frz_reasons.specs.ReasonTexts.{moves_text}

-- the moves of the failing way from the number were written and its reason was answered, or the
-- sink failed within its text
pub record TellsFailure (arena : Arena Step ℕ Value) (side : Colour) (codes : List ℕ) (start : ℕ)
    (result : Result Reason Failed) (old new : SinkTold) : Type 0 where
  pub arms : List (Arm Step ℕ Value)
  pub reason : Reason
  pub way : FailsFrom arena side codes start arms reason
  pub wrote : WroteText (moves_text arms) result old new
  pub answers : IfOk result (λ r. r ≡ reason)
