-- What the answers of `line` mean.
use Rattle.std.specs.Prelude.{◌≡◌, ◌⊎◌, ℕ, ◌+◌, ◌≤◌, List, length, None, Ok, codes}
use Rattle.frz_board.specs.declared.man.Colour.{Colour}
use Rattle.frz_board.specs.Boards.{Board}
use Rattle.frz_sets.specs.declared.exit.Value.{Value}
use Rattle.frz_sets.specs.Views.{RuleLines}
use Rattle.frz_exits.specs.Books.{value_by}
use Rattle.frz_exits.specs.Values.{lag_of}
use Rattle.frz_index.specs.Members.{Member}
use Rattle.frz_store.specs.Files.{Files}
use Rattle.frz_table.specs.Opening.{Contents}
use Rattle.frz_check.specs.KeptTables.{KeepsBound, KeepsTables}
use Rattle.frz_arena.specs.declared.bound.Bound.TheVariants.{Wins, Holds}
use Rattle.frz_arena.specs.Codes.{code_of}
use Rattle.frz_arena.specs.Counted.{counted}
use Rattle.frz_arena.specs.WayEnds as ways
use Rattle.frz_arena.specs.WayEnds.{EndsWon, EndsDrawn}
use Rattle.frz_game.specs.Games.{graph_by}
use Rattle.frz_answer.specs.declared.status.Status.{Status}
use Rattle.frz_answer.specs.declared.status.Status.TheVariants.{Success, Wrong, Table, Outside, Missing}
use Rattle.frz_answer.specs.Answers.{Answer}
use Rattle.frz_prelude.specs.TableFiles.{OpensAs, TellsTableFault}
use Rattle.frz_ways.specs.declared.end.LineEnd.{LineEnd}
use Rattle.frz_ways.specs.declared.end.TheConstants.{LINE_LIMIT}
use Rattle.frz_ways.specs.ChessGames.{IsGame}
use Rattle.frz_ways.specs.Ends as line_ends
use Rattle.frz_ways.specs.Lines.{LinePly, EndOfLine}
use Rattle.frz_commands_line.specs.Later.{held_later}
use Rattle.frz_commands_line.specs.LineOf.{code_at, IsLineBy, told_text}

-- what a line from a win within n plies does: it has at most n plies. The opponent is mated after n
-- plies, or an exit wins for the side after n plies with its lag (the plies to mate that its value
-- gives) counted, unless a code on the way is not the local one
pub record KeepsWin (rules : RuleLines) (side : Colour) (n : ℕ) (plies : List LinePly)
    (end : EndOfLine) : Type 0 where
  pub few : length plies ≤ n
  pub ends : EndsWon (counted (graph_by rules (value_by rules))) side end
  pub mate : (mover : Colour) → end ≡ ways.Mated mover → length plies ≡ n
  pub exit : (v : Value) → end ≡ ways.Exit v → length plies + lag_of v ≡ n

-- what a line from a hold does: nobody is mated, and an exit holds for the side and does not win,
-- unless a code on the way is not the local one. The line has at most LINE_LIMIT plies, and exactly
-- that many where it is cut
pub record KeepsHold (rules : RuleLines) (side : Colour) (plies : List LinePly)
    (end : EndOfLine) : Type 0 where
  pub ends : EndsDrawn (counted (graph_by rules (value_by rules))) side end
  pub few : length plies ≤ LINE_LIMIT
  pub cut : end ≡ ways.Cut → length plies ≡ LINE_LIMIT

-- the file opens, the position is in its set, and these are the plies and the end of the side's
-- line by the codes in the file, as they are read after each number of plies. The line is a game of
-- chess from the position
pub record HasLine (later : ℕ → Files) (table : List ℕ) (side : Colour) (p : Board)
    (files : Files) : Type 0 where
  pub bytes : List ℕ
  pub contents : Contents
  pub open_file : OpensAs table files bytes contents
  pub inside : Member contents.rules.groups p
  pub plies : List LinePly
  pub end : EndOfLine
  pub line : IsLineBy contents (held_later later table) side p plies end
  pub game : IsGame contents.rules side p plies

-- the code of the line's start, for the side
abbrev pub start_code : {later : ℕ → Files} {table : List ℕ} {side : Colour} {p : Board}
    {files : Files}
    → HasLine later table side p files → ℕ
start_code {later = later} {table = table} {side = side} {p = p} has =
    code_at has.contents (held_later later table) side p

-- whenever they are read, the codes in the file are the exact tables of both sides
abbrev pub IsExactFile : {later : ℕ → Files} {table : List ℕ} {side : Colour} {p : Board}
    {files : Files} →
    HasLine later table side p files →
    Type 0
IsExactFile {later = later} {table = table} has = (k : ℕ) →
    KeepsTables (value_by has.contents.rules) has.contents (held_later later table k)

-- the text is that of the line and its end
abbrev pub TellsText : {later : ℕ → Files} {table : List ℕ} {side : Colour} {p : Board}
    {files : Files} →
    HasLine later table side p files →
    List ℕ → Type 0
TellsText {side = side} has text =
    text ≡ told_text side (start_code has) has.plies (line_ends.told side has.end)

-- the whole line is told, with its end. From a win it wins in the promised plies, and from a hold
-- it holds. Where the codes are the exact tables, the code of the start is that of the bound
pub record TellsLine (later : ℕ → Files) (table : List ℕ) (side : Colour) (p : Board)
    (files : Files)
    (text : List ℕ) : Type 0 where
  pub has : HasLine later table side p files
  pub told : TellsText has text
  pub last : LineEnd
  pub ends : line_ends.told side has.end ≡ Ok last
  pub win : (n : ℕ) → start_code has ≡ code_of (Wins n)
      → KeepsWin has.contents.rules side n has.plies has.end
  pub hold : start_code has ≡ code_of Holds → KeepsHold has.contents.rules side has.plies has.end
  pub where_exact : IsExactFile has →
      KeepsBound has.contents.rules (value_by has.contents.rules) side p (start_code has)

-- a code on the line's way is not the local one, which does not happen by the exact tables. Up to
-- there a win and a hold are kept
pub record TellsWrong (later : ℕ → Files) (table : List ℕ) (side : Colour) (p : Board)
    (files : Files)
    (text : List ℕ) : Type 0 where
  pub has : HasLine later table side p files
  pub told : TellsText has text
  pub at : ℕ × ℕ
  pub kept : ℕ
  pub given : ℕ
  pub ends : has.end ≡ ways.Wrong at kept given
  pub win : (n : ℕ) → start_code has ≡ code_of (Wins n)
      → KeepsWin has.contents.rules side n has.plies has.end
  pub hold : start_code has ≡ code_of Holds → KeepsHold has.contents.rules side has.plies has.end
  pub not_exact : IsExactFile has → ⊥

-- the start fails: the side has neither a win nor a hold there
pub record TellsNoBound (later : ℕ → Files) (table : List ℕ) (side : Colour) (p : Board)
    (files : Files)
    (text : List ℕ) : Type 0 where
  pub has : HasLine later table side p files
  pub told : TellsText has text
  pub ends : has.end ≡ ways.NoBound

-- the file opens as a table, and the position is not in its set
pub record TellsOutside (table : List ℕ) (p : Board) (files : Files) (text : List ℕ) : Type 0 where
  pub bytes : List ℕ
  pub contents : Contents
  pub open_file : OpensAs table files bytes contents
  pub outside : Member contents.rules.groups p → ⊥
  pub told : text ≡ codes "outside\n"

-- what an answer says, by its status
abbrev pub MeansStatus : (later : ℕ → Files) → List ℕ → Colour → Board → Files → Status → List ℕ
    → Type 0
MeansStatus later table side p files Success text = TellsLine later table side p files text
MeansStatus later table side p files Wrong text = TellsWrong later table side p files text
MeansStatus later table side p files Table text = TellsTableFault table files text
MeansStatus later table side p files Outside text =
    TellsOutside table p files text ⊎ TellsNoBound later table side p files text
MeansStatus later table side p files Missing text = files table ≡ None
MeansStatus later table side p files status text = ⊥

-- what an answer of `line` means: it changes no file and takes
-- no input, and each status has its cause
pub record MeansLine (later : ℕ → Files) (table : List ℕ) (side : Colour) (p : Board)
    (files : Files)
    (a : Answer) : Type 0 where
  pub same : a.files ≡ files
  pub untaken : a.taken ≡ 0
  pub says : MeansStatus later table side p files a.status a.text
