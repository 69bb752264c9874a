-- What the answers of `play` mean.
use Rattle.std.specs.Prelude.{◌≡◌, ◌⊎◌, ℕ, ◌+◌, ◌≤◌, List, length, Result, Ok, Err, None, Some, slice_get}
use Rattle.std.specs.List.{Contains}
use Rattle.frz_board.specs.declared.man.Colour.{Colour}
use Rattle.frz_board.specs.Boards.{Board}
use Rattle.frz_board.specs.Men.{other_of}
use Rattle.frz_board.specs.Moving.{Step}
use Rattle.frz_fide.specs.Legal.{after}
use Rattle.frz_fide.specs.Listing.{legal_moves_of}
use Rattle.frz_sets.specs.declared.exit.Value.{Value}
use Rattle.frz_sets.specs.Views.{RuleLines}
use Rattle.frz_exits.specs.Books.{value_by}
use Rattle.frz_exits.specs.Values.{lag_of}
use Rattle.frz_index.specs.Members.{Member}
use Rattle.frz_store.specs.Files.{Files}
use Rattle.frz_table.specs.Opening.{Contents}
use Rattle.frz_check.specs.KeptTables.{KeepsBound, KeepsTables}
use Rattle.frz_arena.specs.declared.bound.Bound.TheVariants.{Wins, Holds}
use Rattle.frz_arena.specs.Chess.{NeverForcesMate}
use Rattle.frz_arena.specs.Codes.{code_of}
use Rattle.frz_arena.specs.Counted.{counted}
use Rattle.frz_arena.specs.WayEnds as ways
use Rattle.frz_arena.specs.WayEnds.{EndsWon, EndsHeld}
use Rattle.frz_game.specs.Games.{chess, graph_by}
use Rattle.frz_game.specs.Numbers.{position_at}
use Rattle.frz_game.specs.Values.{AreTrueExits}
use Rattle.frz_answer.specs.declared.status.Status.{Status}
use Rattle.frz_answer.specs.declared.status.Status.TheVariants.{Success, Wrong, Table, Outside, Missing, Limit}
use Rattle.frz_answer.specs.Answers.{Answer}
use Rattle.frz_prelude.specs.TableFiles.{OpensAs, TellsTableFault}
use Rattle.frz_ways.specs.ChessGames.{IsGame}
use Rattle.frz_ways.specs.declared.session_end.PlayFault.{PlayFault}
use Rattle.frz_ways.specs.declared.session_end.PlayFault.TheVariants as plays
use Rattle.frz_ways.specs.declared.session_end.PlayLimit.{PlayLimit}
use Rattle.frz_ways.specs.declared.session_end.SessionEnd.{SessionEnd}
use Rattle.frz_ways.specs.SessionEnds.{Tells}
use Rattle.frz_ways.specs.Reading.{Input}
use Rattle.frz_ways.specs.Sessions.{SessionPly, EndOfSession}
use Rattle.frz_commands_line.specs.LineMeaning.{TellsOutside}
use Rattle.frz_commands_line.specs.Later.{held_later}
use Rattle.frz_commands_line.specs.LineOf.{code_at}
use Rattle.frz_commands_line.specs.SessionOf.{IsSessionBy, played_text}

-- what a session from a win within n plies does: it has at most n plies, with the lag of an exit
-- (the plies to mate that its value gives) counted. The opponent is mated, or the exit wins for the
-- side, unless a code on the way is not the local one or the input ends the session
pub record PlaysWin
    (rules : RuleLines) (side : Colour) (n : ℕ) (plies : List SessionPly)
    (end : EndOfSession) : Type 0 where
  pub few : length plies ≤ n
  pub ends : EndsWon (counted (graph_by rules (value_by rules))) side end
  pub exit : (v : Value) → end ≡ ways.Exit v → length plies + lag_of v ≤ n

-- what a session from a hold does: the side is not mated, and no exit is bad for it
abbrev pub PlaysHold : RuleLines → Colour → EndOfSession → Type 0
PlaysHold rules side end = EndsHeld (counted (graph_by rules (value_by rules))) side end

-- the opponent cannot force mate after any of the plies
abbrev pub IsSafe : RuleLines → Colour → List SessionPly → Type 0
IsSafe rules side plies =
    (x : SessionPly) → Contains plies x →
    (p : Board) (m : Step) → position_at rules.groups x.from.1 ≡ Some p →
    slice_get (legal_moves_of p) x.place ≡ Some m
    → NeverForcesMate chess (other_of side) (after p m)

-- the file opens, the position is in its set, and this is the session of the side against the input
-- by the codes in the file, as they are read after each number of plies. The session is a game of
-- chess from the position
pub record HasSession (later : ℕ → Files) (table : List ℕ) (side : Colour) (p : Board)
    (files : Files)
    (input : List ℕ) : Type 0 where
  pub bytes : List ℕ
  pub contents : Contents
  pub open_file : OpensAs table files bytes contents
  pub inside : Member contents.rules.groups p
  pub plies : List SessionPly
  pub end : EndOfSession
  pub left : Input
  pub session : IsSessionBy contents (held_later later table) side p input plies end left
  pub game : IsGame contents.rules side p plies

-- the code of the session's start, for the side
abbrev pub start_code : {later : ℕ → Files} {table : List ℕ} {side : Colour} {p : Board}
    {files : Files}
    {input : List ℕ} →
    HasSession later table side p files input → ℕ
start_code {later = later} {table = table} {side = side} {p = p} has =
    code_at has.contents (held_later later table) side p

-- whenever they are read, the codes in the file are the exact tables of both sides
abbrev pub IsExactFile : {later : ℕ → Files} {table : List ℕ} {side : Colour} {p : Board}
    {files : Files}
    {input : List ℕ} →
    HasSession later table side p files input → Type 0
IsExactFile {later = later} {table = table} has = (k : ℕ) →
    KeepsTables (value_by has.contents.rules) has.contents (held_later later table k)

-- the session answers this, and the text is that of the session with this answer
pub record Ends
    {later : ℕ → Files} {table : List ℕ} {side : Colour} {p : Board} {files : Files}
    {input : List ℕ}
    (has : HasSession later table side p files input) (text : List ℕ)
    (answer : Result SessionEnd PlayFault) : Type 0 where
  pub tells : Tells side has.end answer
  pub told : text ≡ played_text side (start_code has) has.plies has.end answer

-- the whole session is told, with its end; a win and a hold are kept. Where the codes are the exact
-- tables, the code of the start is that of the bound; where also the exits are true, the opponent
-- cannot force mate after any ply
pub record TellsSession
    (later : ℕ → Files) (table : List ℕ) (side : Colour) (p : Board) (files : Files)
    (input text : List ℕ) : Type 0 where
  pub has : HasSession later table side p files input
  pub last : SessionEnd
  pub ends : Ends has text (Ok last)
  pub win : (n : ℕ) → start_code has ≡ code_of (Wins n)
      → PlaysWin has.contents.rules side n has.plies has.end
  pub hold : start_code has ≡ code_of Holds → PlaysHold has.contents.rules side has.end
  pub where_exact : IsExactFile has →
      KeepsBound has.contents.rules (value_by has.contents.rules) side p (start_code has)
  pub safe : IsExactFile has → AreTrueExits has.contents.rules (value_by has.contents.rules) →
      IsSafe has.contents.rules side has.plies

-- a code on the session's way is not the local one, which does not happen by the exact tables. Up
-- to there a win and a hold are kept
pub record TellsWrong (later : ℕ → Files) (table : List ℕ) (side : Colour) (p : Board)
    (files : Files)
    (input text : List ℕ) : Type 0 where
  pub has : HasSession later table side p files input
  pub fault : PlayFault
  pub ends : Ends has text (Err fault)
  pub wrong : (at : ℕ × ℕ) × (kept : ℕ) × (given : ℕ) × (has.end ≡ ways.Wrong at kept given)
  pub win : (n : ℕ) → start_code has ≡ code_of (Wins n)
      → PlaysWin has.contents.rules side n has.plies has.end
  pub hold : start_code has ≡ code_of Holds → PlaysHold has.contents.rules side has.end
  pub not_exact : IsExactFile has → ⊥

-- the start fails: the side has neither a win nor a hold there
pub record TellsNoBound
    (later : ℕ → Files) (table : List ℕ) (side : Colour) (p : Board) (files : Files)
    (input text : List ℕ) : Type 0 where
  pub has : HasSession later table side p files input
  pub fault : PlayFault
  pub ends : Ends has text (Err fault)
  pub no_bound : has.end ≡ ways.NoBound

-- the input has come to a limit. Up to there a win and a hold are kept; where the codes are the
-- exact tables and the exits are true, the opponent cannot force mate after any ply, as in a
-- session to its end
pub record TellsLimit (later : ℕ → Files) (table : List ℕ) (side : Colour) (p : Board)
    (files : Files)
    (input text : List ℕ) : Type 0 where
  pub has : HasSession later table side p files input
  pub limit : PlayLimit
  pub ends : Ends has text (Err (plays.Limit limit))
  pub win : (n : ℕ) → start_code has ≡ code_of (Wins n)
      → PlaysWin has.contents.rules side n has.plies has.end
  pub hold : start_code has ≡ code_of Holds → PlaysHold has.contents.rules side has.end
  pub safe : IsExactFile has → AreTrueExits has.contents.rules (value_by has.contents.rules) →
      IsSafe has.contents.rules side has.plies

-- what an answer says, by its status
abbrev pub MeansStatus : (later : ℕ → Files) → List ℕ → Colour → Board → Files → List ℕ → Status
    → List ℕ → Type 0
MeansStatus later table side p files input Success text =
    TellsSession later table side p files input text
MeansStatus later table side p files input Wrong text =
    TellsWrong later table side p files input text
MeansStatus later table side p files input Limit text =
    TellsLimit later table side p files input text
MeansStatus later table side p files input Table text = TellsTableFault table files text
MeansStatus later table side p files input Outside text =
    TellsOutside table p files text ⊎ TellsNoBound later table side p files input text
MeansStatus later table side p files input Missing text = files table ≡ None
MeansStatus later table side p files input status text = ⊥

-- what an answer of `play` means: it changes no file, it takes no more input than there is, and
-- each status has its cause
pub record MeansPlay
    (later : ℕ → Files) (table : List ℕ) (side : Colour) (p : Board) (files : Files)
    (input : List ℕ)
    (a : Answer) : Type 0 where
  pub same : a.files ≡ files
  pub few : a.taken ≤ length input
  pub says : MeansStatus later table side p files input a.status a.text
