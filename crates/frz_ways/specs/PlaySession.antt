-- What a session from a position of a set writes and takes of the input.
use Rattle.std.specs.Prelude.{◌≡◌, ℕ, List, ◌++◌, Result, slice_index}
use Rattle.frz_board.specs.declared.man.Colour.{Colour}
use Rattle.frz_board.specs.Boards.{Board}
use Rattle.frz_sets.specs.Views.{RuleLines}
use Rattle.frz_answer.specs.World.{Spent}
use Rattle.frz_arena.specs.declared.arm.Next.TheVariants.{Inside}
use Rattle.frz_exits.specs.Books.{value_by}
use Rattle.frz_game.specs.Games.{graph_by}
use Rattle.frz_index.specs.Members.{Member, Num}
use Rattle.frz_ways.specs.Costs.{way_numbers, SpendsAt}
use Rattle.frz_ways.specs.declared.session_end.SessionEnd.{SessionEnd}
use Rattle.frz_ways.specs.declared.session_end.PlayFault.{PlayFault}
use Rattle.frz_ways.specs.SessionEnds.{Finishes}
use Rattle.frz_ways.specs.Reading.{Input}
use Rattle.frz_ways.specs.Sessions.{SessionPly, EndOfSession, IsSession}
use Rattle.frz_ways.specs.SessionTexts.{session_text}

-- how much of a session was played: its text begins with what was written, and what it takes of the
-- input begins with what was taken. Where the session came to an end of its own, both are complete
pub record PlayedOf
    (side : Colour) (code : ℕ) (input bytes text : List ℕ) (result : Result SessionEnd PlayFault)
    (plies : List SessionPly) (end : EndOfSession) (left : Input) : Type 0 where
  pub rest : List ℕ
  pub unread : List ℕ
  pub begins : text ++ rest ≡ session_text side code plies end
  pub takes : bytes ++ (unread ++ left.left) ≡ input
  pub finishes : Finishes result side end rest unread

-- the text and the bytes are those of the session from the position's number against the input. At
-- most, the code of the start is read once, and at each number that the session comes to, the moves
-- are listed once, and the code of each move that stays inside is read once
abbrev pub TellsSession : RuleLines → Colour → (codes : ℕ → List ℕ) → Board
    → (input bytes text : List ℕ) →
    Result SessionEnd PlayFault → (before now : Spent) → Type 0
TellsSession rules side codes p input bytes text result before now =
    Member rules.groups p →
    (plies : List SessionPly) (end : EndOfSession) (left : Input) →
    IsSession rules (value_by rules) side codes (Num rules.groups p) input plies end left →
    PlayedOf side (slice_index (codes 0) (Num rules.groups p)) input bytes text result plies end
    left
    × SpendsAt (graph_by rules (value_by rules)) 1
    (way_numbers (Inside (0, Num rules.groups p)) plies)
    before now
