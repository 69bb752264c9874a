-- One call after another: what calls that end with status 0 say together, over the same files or
-- over those that the call before left.
use Rattle.std.specs.Prelude.{◌≡◌, ℕ, List, [], ◌∷◌, Ok, Some, codes}
use Rattle.frz_board.specs.declared.man.Colour.{Colour}
use Rattle.frz_board.specs.declared.man.Colour.TheVariants.{White, Black}
use Rattle.frz_board.specs.Boards.{Board}
use Rattle.frz_fen.specs.Reading.{fen_of}
use Rattle.frz_exits.specs.Books.{value_by}
use Rattle.frz_game.specs.Values.{AreTrueExits}
use Rattle.frz_index.specs.Members.{Member}
use Rattle.frz_store.specs.Bytes.{HoldsBytes}
use Rattle.frz_store.specs.Files.{Files}
use Rattle.frz_check.specs.Kept.{kept_codes}
use Rattle.frz_check.specs.KeptTables.{KeepsBound}
use Rattle.frz_report.specs.Squeezes.{IsSqueeze, Squeeze, rank_at}
use Rattle.frz_report.specs.Zugzwangs.{IsZugzwang}
use Rattle.frz_commands_chain.specs.Books.{chain_value}
use Rattle.frz_answer.specs.declared.status.Status.TheVariants.{Success}
use Rattle.frz_answer.specs.Answers.{Answer}
use Rattle.frz_commands_ask.specs.Kept.{kept_at}
use Rattle.frz_commands_ask.specs.Meaning.{TellsBounds, TellsSolved}
use Rattle.frz_commands_ask.specs.Reporting.{TellsReport}
use Rattle.frz_commands_chain.specs.ChainHeadline.{ChainHeadline}
use Rattle.frz_commands_line.specs.Later.{from_opening}
use Rattle.frz_commands_line.specs.LineMeaning as lines
use Rattle.frz_commands_line.specs.LineMeaning.{TellsLine}
use Rattle.frz_commands_line.specs.SessionMeaning as sessions
use Rattle.frz_commands_line.specs.SessionMeaning.{IsSafe, TellsSession}
use Rattle.frz_commands_line.specs.Sides.{side_of}
use Rattle.frz_commands_table.specs.Headline.{Headline}
use Rattle.frz_freezer_top.specs.Commands.{job_of}

-- the words of each call
abbrev pub check : (table : List ℕ) → List (List ℕ)
check table = codes "check" ∷ table ∷ []

abbrev pub build : (rules table : List ℕ) → List (List ℕ)
build rules table = codes "build" ∷ rules ∷ table ∷ []

abbrev pub query : (table fen : List ℕ) → List (List ℕ)
query table fen = codes "query" ∷ table ∷ fen ∷ []

abbrev pub report : (table : List ℕ) → List (List ℕ)
report table = codes "report" ∷ table ∷ []

abbrev pub line : (table fen side : List ℕ) → List (List ℕ)
line table fen side = codes "line" ∷ table ∷ fen ∷ side ∷ []

abbrev pub play : (table fen side : List ℕ) → List (List ℕ)
play table fen side = codes "play" ∷ table ∷ fen ∷ side ∷ []

abbrev pub chain : (rules back table : List ℕ) → List (List ℕ)
chain rules back table = codes "chain" ∷ rules ∷ back ∷ table ∷ []

abbrev pub chaincheck : (table back : List ℕ) → List (List ℕ)
chaincheck table back = codes "chaincheck" ∷ table ∷ back ∷ []

abbrev pub chainquery : (table fen : List ℕ) → List (List ℕ)
chainquery table fen = codes "chainquery" ∷ table ∷ fen ∷ []

-- the call with these words, over these files of bytes and some input, gives this answer with
-- status 0. Where it reads a file again after some plies, it finds there what the store holds later
pub record Succeeds (later : ℕ → Files) (words : List (List ℕ)) (files : Files)
    (a : Answer) : Type 0 where
  pub bytes : HoldsBytes files
  pub input : List ℕ
  pub answer : (job_of later words).answers files input a
  pub done : a.status ≡ Success

-- whenever it is read again, the name holds what it holds in these files
abbrev pub Stays : (table : List ℕ) → Files → (later : ℕ → Files) → Type 0
Stays table files later = (k : ℕ) → later k table ≡ files table

-- TABLE is exact, FEN is a position of its set, and the text tells the bounds of both sides there,
-- which say of chess what Means states, under the premise that the exits are true
pub record TellsTrueBounds (table fen : List ℕ) (files : Files) (text : List ℕ) : Type 0 where
  pub exact : Headline table files
  pub p : Board
  pub read : fen_of fen ≡ Ok p
  pub inside : Member exact.rules.groups p
  pub tells : TellsBounds exact.rules (value_by exact.rules) p text

-- TABLE is exact over the back table, FEN is a position of its set, and the text tells the bounds
-- of both sides there. Exits have the values of TABLE's exit lines, and of the back table where
-- these say nothing
pub record TellsChainedBounds (table back fen : List ℕ) (files : Files)
    (text : List ℕ) : Type 0 where
  pub exact : ChainHeadline table back files
  pub p : Board
  pub read : fen_of fen ≡ Ok p
  pub inside : Member exact.rules.groups p
  pub tells : TellsBounds exact.rules (chain_value exact.rules exact.behind) p text

-- FEN is a position, and the text tells its bounds in the game of the rules file
pub record TellsSolvedBounds (rules fen : List ℕ) (files : Files) (text : List ℕ) : Type 0 where
  pub p : Board
  pub read : fen_of fen ≡ Ok p
  pub solved : TellsSolved rules p files text

-- the text is the report of the file. Each code that the report uses, of either side at any
-- position of the set, is that of the bound there, which says of chess what Means states, under the
-- premise that the exits are true. Where they are, each listed pair (a squeeze) that shows a win is
-- a mutual zugzwang of chess
pub record TellsTrueReport (table : List ℕ) (files : Files) (text : List ℕ) : Type 0 where
  pub tells : TellsReport table files text
  pub bounds : (side : Colour) (p : Board) → Member tells.contents.rules.groups p →
      KeepsBound tells.contents.rules (value_by tells.contents.rules) side p
      (kept_at side tells.contents tells.bytes p)
  pub white_zugzwang : AreTrueExits tells.contents.rules (value_by tells.contents.rules) →
      (s : Squeeze) →
      (squeeze : IsSqueeze tells.contents.rules.groups (kept_codes tells.contents tells.bytes) s) →
      rank_at (kept_codes tells.contents tells.bytes) White s.black_to_move ≡ 2 →
      IsZugzwang White squeeze.other s.position
  pub black_zugzwang : AreTrueExits tells.contents.rules (value_by tells.contents.rules) →
      (s : Squeeze) →
      (squeeze : IsSqueeze tells.contents.rules.groups (kept_codes tells.contents tells.bytes) s) →
      rank_at (kept_codes tells.contents tells.bytes) Black s.white_to_move ≡ 2 →
      IsZugzwang Black s.position squeeze.other

-- the text is the line of the side from the position. The bound that it begins with is that of the
-- position, and says of chess what Means states, under the premise that the exits are true
pub record TellsTrueLine (later : ℕ → Files) (table fen word : List ℕ) (files : Files)
    (text : List ℕ) : Type 0 where
  pub p : Board
  pub read : fen_of fen ≡ Ok p
  pub side : Colour
  pub named : side_of word ≡ Some side
  pub tells : TellsLine (from_opening files later) table side p files text
  pub bound : KeepsBound tells.has.contents.rules (value_by tells.has.contents.rules) side p
      (lines.start_code tells.has)

-- the text is the session of the side from the position. The bound that it begins with is that of
-- the position, and says of chess what Means states, under the premise that the exits are true.
-- Where they are, the opponent cannot force mate after any ply
pub record TellsTrueSession (later : ℕ → Files) (table fen word : List ℕ) (files : Files)
    (input text : List ℕ) : Type 0 where
  pub p : Board
  pub read : fen_of fen ≡ Ok p
  pub side : Colour
  pub named : side_of word ≡ Some side
  pub tells : TellsSession (from_opening files later) table side p files input text
  pub bound : KeepsBound tells.has.contents.rules (value_by tells.has.contents.rules) side p
      (sessions.start_code tells.has)
  pub safe : AreTrueExits tells.has.contents.rules (value_by tells.has.contents.rules) →
      IsSafe tells.has.contents.rules side tells.has.plies
