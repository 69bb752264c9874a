-- What `line TABLE FEN SIDE` and `play TABLE FEN SIDE` answer, by how the table file opens.
use Rattle.std.specs.Prelude.{◌≡◌, ℕ, List, MatchBool, Result, Ok, Err}
use Rattle.frz_board.specs.declared.man.Colour.{Colour}
use Rattle.frz_board.specs.Boards.{Board}
use Rattle.frz_game.specs.Numbers.{is_member}
use Rattle.frz_store.specs.Files.{Files}
use Rattle.frz_table.specs.declared.fault.TableFault.{TableFault}
use Rattle.frz_table.specs.declared.kind.FileKind.TheVariants.{Plain}
use Rattle.frz_table.specs.Opening.{Contents, opened, table_format}
use Rattle.frz_answer.specs.Answers.{Answer, says}
use Rattle.frz_prelude.specs.Refusals.{status_of, refusal_line}
use Rattle.frz_prelude.specs.declared.refused.Refused.TheVariants as refusals
use Rattle.frz_ways.specs.declared.opponent.Opponent.{Opponent}
use Rattle.frz_ways.specs.declared.opponent.Opponent.TheVariants as opponents
use Rattle.frz_commands_line.specs.Later.{held_later}
use Rattle.frz_commands_line.specs.LineOf.{IsLined, LineComes}
use Rattle.frz_commands_line.specs.SessionOf.{IsPlayed, SessionComes}

-- the answer at a position of the set: the side's line is told, or its session against the input
abbrev pub IsTold : Opponent → Contents → (bytes : ℕ → List ℕ) → Colour → Board → Files →
    (input : List ℕ) → Answer → Type 0
IsTold opponents.Codes contents bytes side p files input a = IsLined contents bytes side p files a
IsTold opponents.Input contents bytes side p files input a =
    IsPlayed contents bytes side p files input a

-- these are the numbers that the line or session comes to
abbrev pub WayComes : Opponent → (bytes : ℕ → List ℕ) → Colour → Board → (input : List ℕ) →
    Contents → (numbers : List ℕ) → Type 0
WayComes opponents.Codes bytes side p input contents numbers =
    LineComes bytes side p contents numbers
WayComes opponents.Input bytes side p input contents numbers =
    SessionComes bytes side p input contents numbers

-- the answer by a file that opens: the position has a line or session, or is outside the set
abbrev pub IsToldIn : Opponent → Contents → (ℕ → List ℕ) → Colour → Board → Files → List ℕ → Answer
    → Type 0
IsToldIn opponent contents bytes side p files input a =
    MatchBool (is_member contents.rules.groups p)
    (IsTold opponent contents bytes side p files input a)
    (a ≡ says (status_of refusals.Outside) (refusal_line refusals.Outside) files)

-- the answer, by how the file opens
abbrev pub IsToldBy : Opponent → Result Contents TableFault → (ℕ → List ℕ) → Colour → Board → Files
    → List ℕ → Answer → Type 0
IsToldBy opponent (Ok contents) bytes side p files input a =
    IsToldIn opponent contents bytes side p files input a
IsToldBy opponent (Err fault) bytes side p files input a =
    a ≡ says (status_of (refusals.Table fault)) (refusal_line (refusals.Table fault)) files

-- the answer by the file that has the name, and by what the name holds after each number of plies
abbrev pub IsToldAt : Opponent → (later : ℕ → Files) → List ℕ → Colour → Board → Files → List ℕ
    → Answer → Type 0
IsToldAt opponent later table side p files input a =
    IsToldBy opponent (opened (table_format Plain) (files table)) (held_later later table) side p
    files input a
