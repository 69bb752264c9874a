-- What `play TABLE FEN SIDE` answers at a position of the set: the session of the side by the codes
-- in the file, against the input. No file changes.
use Rattle.std.specs.Prelude.{◌≡◌, ℕ, ◌-◌, List, ◌++◌, length, Result}
use Rattle.frz_board.specs.declared.man.Colour.{Colour}
use Rattle.frz_board.specs.Boards.{Board}
use Rattle.frz_arena.specs.declared.arm.Next.TheVariants.{Inside}
use Rattle.frz_exits.specs.Books.{value_by}
use Rattle.frz_index.specs.Members.{Num}
use Rattle.frz_store.specs.Files.{Files}
use Rattle.frz_table.specs.Opening.{Contents}
use Rattle.frz_answer.specs.Answers.{Answer}
use Rattle.frz_ways.specs.Costs.{way_numbers}
use Rattle.frz_ways.specs.declared.session_end.PlayFault.{PlayFault}
use Rattle.frz_ways.specs.declared.session_end.SessionEnd.{SessionEnd}
use Rattle.frz_ways.specs.SessionEnds.{Tells}
use Rattle.frz_ways.specs.Reading.{Input}
use Rattle.frz_ways.specs.Sessions.{SessionPly, EndOfSession, IsSession}
use Rattle.frz_ways.specs.SessionTexts.{session_text}
use Rattle.frz_commands_line.specs.LineOf.{code_at, codes_later}
use Rattle.frz_commands_line.specs.SessionEnds.{session_status, session_naming}

-- the session of the side from the position against the input, by the codes in the bytes, in the
-- game of their rules; `left` is the input that the session leaves
abbrev pub IsSessionBy : Contents → (ℕ → List ℕ) → Colour → Board → (input : List ℕ)
    → List SessionPly →
    EndOfSession →
    Input → Type 0
IsSessionBy contents bytes side p input plies end left =
    IsSession contents.rules (value_by contents.rules) side (codes_later contents bytes side)
    (Num contents.rules.groups p) input plies end left

-- these are the numbers that the session comes to
pub record SessionComes
    (bytes : ℕ → List ℕ) (side : Colour) (p : Board) (input : List ℕ) (contents : Contents)
    (numbers : List ℕ)
    : Type 0 where
  pub plies : List SessionPly
  pub end : EndOfSession
  pub left : Input
  pub session : IsSessionBy contents bytes side p input plies end left
  pub are : numbers ≡ way_numbers (Inside (0, Num contents.rules.groups p)) plies

-- the text of the session, and the naming line of an end for which the session itself writes
-- nothing
abbrev pub played_text : Colour → ℕ → List SessionPly → EndOfSession → Result SessionEnd PlayFault
    → List ℕ
played_text side code plies end answer = session_text side code plies end ++ session_naming answer

-- the answer of a session: it takes all of the input that the session does not leave
abbrev pub session_answer : Colour → ℕ → (input : List ℕ) → List SessionPly → EndOfSession → Input →
    Result SessionEnd PlayFault → Files → Answer
session_answer side code input plies end left answer files = record {
  status = session_status answer;
  text = played_text side code plies end answer;
  files = files;
  taken = length input - length left.left;
}

-- the answer at a position of the set: its session is told
pub record IsPlayed
    (contents : Contents) (bytes : ℕ → List ℕ) (side : Colour) (p : Board) (files : Files)
    (input : List ℕ) (a : Answer)
    : Type 0 where
  pub plies : List SessionPly
  pub end : EndOfSession
  pub left : Input
  pub session : IsSessionBy contents bytes side p input plies end left
  pub answer : Result SessionEnd PlayFault
  pub tells : Tells side end answer
  pub told : a ≡ session_answer side (code_at contents bytes side p) input plies end left answer
      files
