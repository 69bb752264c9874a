-- What is written and answered of a hold.
use Rattle.std.specs.Prelude.{◌≡◌, ℕ, List, Option, Result, IfOk}
use Rattle.frz_board.specs.declared.man.Colour.{Colour}
use Rattle.frz_board.specs.Moving.{Step}
use Rattle.frz_sets.specs.declared.exit.Value.{Value}
use Rattle.frz_store.specs.declared.outside.Failed.{Failed}
use Rattle.frz_store.specs.Told.{SinkTold}
use Rattle.frz_answer.specs.Texts.{WroteText}
use Rattle.frz_arena.specs.declared.arm.Arm.{Arm}
use Rattle.frz_arena.specs.Arena.{Arena}
use Rattle.frz_game.specs.declared.wrong.Wrong.{Wrong}
use Rattle.frz_reasons.specs.declared.denial.Denial.{Denial}
use Rattle.frz_reasons.specs.Denials.{DeniesWin, first_wrong, own_denials}
use Rattle.frz_reasons.specs.ReasonTexts.{denials_text}

-- the denials at the number were written, and the wrong entry answered, if one was met; or the sink
-- failed within their text
pub record TellsDenials (arena : Arena Step ℕ Value) (side : Colour) (codes : List ℕ) (number : ℕ)
    (result : Result (Option Wrong) Failed) (old new : SinkTold) : Type 0 where
  pub denials : List Denial
  pub wrong : Option Wrong
  pub denied : DeniesWin arena side codes number denials wrong
  pub wrote : WroteText (denials_text denials) result old new
  pub answers : IfOk result (λ w. w ≡ wrong)

-- the denials of these moves of the side were written, up to a wrong entry, which is answered
pub record TellsOwn (arena : Arena Step ℕ Value) (side : Colour) (codes : List ℕ)
    (arms : List (Arm Step ℕ Value)) (result : Result (Option Wrong) Failed)
    (old new : SinkTold) : Type 0 where
  pub wrote : WroteText (denials_text (own_denials arena side codes arms)) result old new
  pub answers : IfOk result (λ w. w ≡ first_wrong arena side codes arms)
