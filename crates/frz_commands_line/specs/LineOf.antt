-- What `line TABLE FEN SIDE` answers at a position of the set: the best line of the side by the
-- codes in the file. No file changes.
use Rattle.std.specs.Prelude.{◌≡◌, ℕ, List, ◌++◌, slice_index, Result}
use Rattle.frz_board.specs.declared.man.Colour.{Colour}
use Rattle.frz_board.specs.Boards.{Board}
use Rattle.frz_arena.specs.declared.arm.Next.TheVariants.{Inside}
use Rattle.frz_exits.specs.Books.{value_by}
use Rattle.frz_index.specs.Members.{Num}
use Rattle.frz_store.specs.Files.{Files}
use Rattle.frz_table.specs.Opening.{Contents}
use Rattle.frz_check.specs.Kept.{kept_codes}
use Rattle.frz_answer.specs.Answers.{Answer, says}
use Rattle.frz_ways.specs.declared.end.LineEnd.{LineEnd}
use Rattle.frz_ways.specs.declared.end.LineFault.{LineFault}
use Rattle.frz_ways.specs.Costs.{way_numbers}
use Rattle.frz_ways.specs.Ends as ends
use Rattle.frz_ways.specs.Lines.{LinePly, EndOfLine, IsLine}
use Rattle.frz_ways.specs.Texts.{line_text}
use Rattle.frz_commands_line.specs.LineEnds.{end_status, naming_line}

-- the codes of the side in the bytes that the file holds after k plies
abbrev pub codes_later : Contents → (bytes : ℕ → List ℕ) → Colour → ℕ → List ℕ
codes_later contents bytes side k = kept_codes contents (bytes k) side

-- the code of the side at the number of the position, as it is read at the start
abbrev pub code_at : Contents → (ℕ → List ℕ) → Colour → Board → ℕ
code_at contents bytes side p =
    slice_index (codes_later contents bytes side 0) (Num contents.rules.groups p)

-- the line of the side from the position, by the codes in the bytes, in the game of their rules
abbrev pub IsLineBy : Contents → (ℕ → List ℕ) → Colour → Board → List LinePly → EndOfLine → Type 0
IsLineBy contents bytes side p plies end =
    IsLine contents.rules (value_by contents.rules) side (codes_later contents bytes side)
    (Num contents.rules.groups p) plies end

-- these are the numbers that the line comes to
pub record LineComes (bytes : ℕ → List ℕ) (side : Colour) (p : Board) (contents : Contents)
    (numbers : List ℕ) : Type 0 where
  pub plies : List LinePly
  pub end : EndOfLine
  pub line : IsLineBy contents bytes side p plies end
  pub are : numbers ≡ way_numbers (Inside (0, Num contents.rules.groups p)) plies

-- the text of the line, and the naming line of an end for which the line itself writes nothing
abbrev pub told_text : Colour → ℕ → List LinePly → Result LineEnd LineFault → List ℕ
told_text side code plies answer = line_text side code plies answer ++ naming_line answer

abbrev pub line_answer : Colour → ℕ → List LinePly → Result LineEnd LineFault → Files → Answer
line_answer side code plies answer files =
    says (end_status answer) (told_text side code plies answer) files

-- the answer at a position of the set: its line is told
pub record IsLined
    (contents : Contents) (bytes : ℕ → List ℕ) (side : Colour) (p : Board) (files : Files)
    (a : Answer) : Type 0 where
  pub plies : List LinePly
  pub end : EndOfLine
  pub line : IsLineBy contents bytes side p plies end
  pub told : a ≡ line_answer side (code_at contents bytes side p) plies (ends.told side end) files
