-- What `why` tells of a number of the set, by codes in memory.
use Rattle.std.specs.Prelude.{◌≡◌, ◌+◌, ◌/◌, ℕ, true, false, List, [], ◌++◌, Option, None, Some, Result, IfOk, slice_index}
use Rattle.frz_board.specs.declared.man.Colour.{Colour}
use Rattle.frz_board.specs.Boards.{Board}
use Rattle.frz_board.specs.Men.{other_of}
use Rattle.frz_board.specs.Moving.{Step}
use Rattle.frz_sets.specs.declared.exit.Value.{Value}
use Rattle.frz_sets.specs.Views.{RuleLines}
use Rattle.frz_store.specs.declared.outside.Failed.{Failed}
use Rattle.frz_store.specs.Told.{SinkTold}
use Rattle.frz_arena.specs.declared.arm.Arm.{Arm}
use Rattle.frz_arena.specs.Codes.{is_failure, is_win}
use Rattle.frz_game.specs.Games.{graph_by}
use Rattle.frz_game.specs.declared.wrong.Wrong.{Wrong}
use Rattle.frz_answer.specs.declared.end.End.{End}
use Rattle.frz_answer.specs.declared.status.Status.{Status}
use Rattle.frz_answer.specs.Ends.{Said}
use Rattle.frz_answer.specs.Texts.{WroteText}
use Rattle.frz_bound_lines.specs.BoundLines.{kept_line}
use Rattle.frz_reasons.specs.declared.denial.Denial.{Denial}
use Rattle.frz_reasons.specs.declared.reason.Reason.{Reason}
use Rattle.frz_reasons.specs.Denials.{DeniesWin}
use Rattle.frz_reasons.specs.FailingWays.{FailsFrom}
use Rattle.frz_reasons.specs.LocalEntries.{wrong_at}
use Rattle.frz_reasons.specs.ReasonTexts.{denials_text, moves_text}
use Rattle.frz_commands_why.specs.declared.decider.Decider.{Decider}
use Rattle.frz_commands_why.specs.Texts.{end_text, status_by, wrong_in, wrong_text}

-- the way on which the side fails by its codes, and its end, with the entry that is wrong, if one
-- is met: `decider` says what decides a position outside
pub data ToldFailure (rules : RuleLines) (value : Board → Value) (side : Colour)
    (codes : List ℕ) (decider : Board → Decider) (number : ℕ) : List ℕ → Option Wrong → Type 0 where
  on_way : (arms : List (Arm Step ℕ Value)) (reason : Reason) →
      FailsFrom (graph_by rules value) side codes number arms reason →
      ToldFailure rules value side codes decider number
      (moves_text arms ++ end_text rules.groups decider reason) (wrong_in reason)

-- what is told of the opponent behind the denials of a hold, by the opponent's codes, where the
-- denials met this wrong entry or none
pub data ToldOpponent (rules : RuleLines) (value : Board → Value) (opponent : Colour)
    (codes : List ℕ) (decider : Board → Decider) (number : ℕ) :
    (met : Option Wrong) → List ℕ → Option Wrong → Type 0 where
  -- behind a wrong entry nothing
  met_wrong : (w : Wrong) →
      ToldOpponent rules value opponent codes decider number (Some w) [] (Some w)
  -- where the opponent has a bound, nothing
  has_bound : is_failure (slice_index codes number) ≡ false →
      ToldOpponent rules value opponent codes decider number None [] None
  -- where the opponent has none, this, and the way on which the opponent fails
  has_none : is_failure (slice_index codes number) ≡ true → (text : List ℕ) (wrong : Option Wrong) →
      ToldFailure rules value opponent codes decider number text wrong →
      ToldOpponent rules value opponent codes decider number None
      (kept_line opponent (slice_index codes number) ++ text) wrong

-- the lines behind that of the bound, and the entry that is wrong, if one is met: by the codes kept
-- for both sides in the game of the rules
pub data ToldAt (rules : RuleLines) (value : Board → Value) (side : Colour)
    (kept : Colour → List ℕ) (decider : Board → Decider) (number : ℕ) :
    List ℕ → Option Wrong → Type 0 where
  -- of a win nothing more is told
  wins : is_win (slice_index (kept side) number) ≡ true →
      ToldAt rules value side kept decider number [] None
  -- of a hold, how a win is denied to the side, and why its opponent has none
  holds : slice_index (kept side) number ≡ 1 → (denials : List Denial) (met : Option Wrong) →
      DeniesWin (graph_by rules value) side (kept side) number denials met →
      (text : List ℕ) (wrong : Option Wrong) →
      ToldOpponent rules value (other_of side) (kept (other_of side)) decider number met text
      wrong →
      ToldAt rules value side kept decider number (denials_text denials ++ text) wrong
  -- of a failure, the way on which the side fails
  fails : is_failure (slice_index (kept side) number) ≡ true → (text : List ℕ)
      (wrong : Option Wrong) → ToldFailure rules value side (kept side) decider number text wrong →
      ToldAt rules value side kept decider number text wrong
  -- 0 is the code of no position: the entry is wrong
  neither : slice_index (kept side) number ≡ 0 →
      ToldAt rules value side kept decider number []
      (Some (wrong_at (graph_by rules value) side (kept side) number))

-- a text was written of which P holds with the wrong entry that was answered; or the sink failed
-- within it
pub record TellsSo (P : List ℕ → Option Wrong → Type 0) (result : Result (Option Wrong) Failed)
    (old new : SinkTold) : Type 0 where
  pub text : List ℕ
  pub wrong : Option Wrong
  pub told : P text wrong
  pub wrote : WroteText text result old new
  pub answers : IfOk result (λ w. w ≡ wrong)

-- what is told behind the line of the bound was written
abbrev pub TellsBehind : RuleLines → (Board → Value) → Colour → (kept : Colour → List ℕ) →
    (Board → Decider) → (number : ℕ) → Result (Option Wrong) Failed → SinkTold → SinkTold → Type 0
TellsBehind rules value side kept decider number result old new =
    TellsSo (ToldAt rules value side kept decider number) result old new

-- the whole text: the line of the bound, what is told behind it, and a wrong entry
abbrev pub why_text : Colour → (code : ℕ) → List ℕ → Option Wrong → List ℕ
why_text side code text wrong = kept_line side code ++ (text ++ wrong_text wrong)

-- what is told of the number was written, and its status answered; or the sink failed within the
-- text
pub record TellsWhy (rules : RuleLines) (value : Board → Value) (side : Colour)
    (kept : Colour → List ℕ) (decider : Board → Decider) (number : ℕ)
    (result : Result Status Failed) (old new : SinkTold) : Type 0 where
  pub text : List ℕ
  pub wrong : Option Wrong
  pub told : ToldAt rules value side kept decider number text wrong
  pub wrote : WroteText (why_text side (slice_index (kept side) number) text wrong) result old new
  pub answers : IfOk result (λ status. status ≡ status_by wrong)

-- the command ended once this was told
pub record EndsWhy (rules : RuleLines) (value : Board → Value) (side : Colour)
    (kept : Colour → List ℕ) (decider : Board → Decider) (number : ℕ) (end : End)
    (old new : SinkTold) : Type 0 where
  pub text : List ℕ
  pub wrong : Option Wrong
  pub told : ToldAt rules value side kept decider number text wrong
  pub said : Said (status_by wrong) (why_text side (slice_index (kept side) number) text wrong)
      end old new

-- the most steps that telling takes at a number with these codes of the side and of its opponent,
-- and so many moves
abbrev pub telling_steps : (code other moves : ℕ) → ℕ
telling_steps code other moves = 1 + code / 2 + other / 2 + moves
