-- What the answers of `ask` mean.
use Rattle.std.specs.Prelude.{◌≡◌, ◌⊎◌, ◌<◌, ◌≤◌, ◌+◌, ℕ, List, [], ◌∷◌, ◌++◌, length, take, slice_get, sum_by, Some, codes}
use Rattle.frz_board.specs.declared.man.Colour.TheVariants.{White, Black}
use Rattle.frz_board.specs.Boards.{Board}
use Rattle.frz_index.specs.Members.{Member}
use Rattle.frz_store.specs.Files.{Files}
use Rattle.frz_words.specs.Lines.{lines}
use Rattle.frz_check.specs.KeptTables.{KeepsBound, KeepsTables}
use Rattle.frz_answer.specs.declared.status.Status.{Status}
use Rattle.frz_answer.specs.declared.status.Status.TheVariants.{Success, Table, Missing, Limit}
use Rattle.frz_answer.specs.Answers.{Answer}
use Rattle.frz_atlas.specs.Behind.{backs_in}
use Rattle.frz_atlas_prelude.specs.TableRefusals.{TellsRefusal}
use Rattle.frz_commands_why.specs.Meaning.{Opens}
use Rattle.frz_commands_why.specs.WhyOf.{code_at, value_behind}
use Rattle.frz_commands_inquiry.specs.AskOf.{link_in}
use Rattle.frz_commands_inquiry.specs.Places.{both_text, place_text, reply_to}
use Rattle.frz_commands_inquiry.specs.declared.inquiring.TheConstants.{MOST_LINES}
use Rattle.frz_commands_inquiry.specs.declared.input_line.TheConstants.{MOST_LENGTH}

-- what the opened tables reply to a line
abbrev pub reply_in : {table : List ℕ} {behind : List (List ℕ)} {files : Files} →
    Opens table behind files → (line : List ℕ) → List ℕ
reply_in opens line =
    reply_to (link_in opens.contents opens.bytes) (backs_in opens.tables) line

-- a line for each of these lines, in their order
abbrev pub replies : (reply : List ℕ → List ℕ) → List (List ℕ) → List ℕ
replies reply [] = []
replies reply (line ∷ others) = (reply line ++ codes "\n") ++ replies reply others

-- the reply to a position of TABLE's set has the words of these codes, which stand for the bounds of
-- both sides there, and the bounds say of chess what Means states, under the premise that the exits
-- are true
pub record TellsBoundsAt {table : List ℕ} {behind : List (List ℕ)} {files : Files}
    (opens : Opens table behind files) (p : Board) : Type 0 where
  pub white : KeepsBound opens.contents.rules
      (value_behind opens.contents opens.bytes opens.tables) White p
      (code_at opens.contents opens.bytes White p)
  pub black : KeepsBound opens.contents.rules
      (value_behind opens.contents opens.bytes opens.tables) Black p
      (code_at opens.contents opens.bytes Black p)
  pub told : place_text (link_in opens.contents opens.bytes) (backs_in opens.tables) p
      ≡ both_text (code_at opens.contents opens.bytes White p)
      (code_at opens.contents opens.bytes Black p)

-- so it is where the codes in TABLE are its tables over the BACKs
abbrev pub WhereExact : {table : List ℕ} {behind : List (List ℕ)} {files : Files} →
    Opens table behind files → Type 0
WhereExact opens =
    KeepsTables (value_behind opens.contents opens.bytes opens.tables) opens.contents opens.bytes →
    (p : Board) → Member opens.contents.rules.groups p → TellsBoundsAt opens p

-- each line of the input is answered, and all of the input is taken
pub record TellsAll (table : List ℕ) (behind : List (List ℕ)) (files : Files) (input : List ℕ)
    (a : Answer) : Type 0 where
  pub open_all : Opens table behind files
  pub told : a.text ≡ replies (reply_in open_all) (lines input) ++ codes "input ended\n"
  pub few : length (lines input) < MOST_LINES
  pub all : a.taken ≡ length input
  pub where_exact : WhereExact open_all

-- how many bytes lines have with their line feeds
abbrev pub bytes_of : List (List ℕ) → ℕ
bytes_of lines = sum_by (λ line. length line + 1) lines

-- as many lines as may be were answered, and nothing behind them is taken
pub record MetLines (reply : List ℕ → List ℕ) (input : List ℕ) (a : Answer) : Type 0 where
  pub many : MOST_LINES ≤ length (lines input)
  pub told : a.text ≡ replies reply (take MOST_LINES (lines input)) ++ codes "limit lines\n"
  pub taken : a.taken ≤ bytes_of (take MOST_LINES (lines input))

-- the line behind so many is too long: one byte more than a line may have is taken of it
pub record MetLength (reply : List ℕ → List ℕ) (input : List ℕ) (a : Answer) : Type 0 where
  pub answered : ℕ
  pub few : answered < MOST_LINES
  pub line : List ℕ
  pub next : slice_get (lines input) answered ≡ Some line
  pub long : MOST_LENGTH < length line
  pub told : a.text ≡ replies reply (take answered (lines input)) ++ codes "limit line length\n"
  pub taken : a.taken ≤ bytes_of (take answered (lines input)) + (MOST_LENGTH + 1)

-- each line before the limit is answered
pub record TellsLimit (table : List ℕ) (behind : List (List ℕ)) (files : Files) (input : List ℕ)
    (a : Answer) : Type 0 where
  pub open_all : Opens table behind files
  pub limit : MetLines (reply_in open_all) input a ⊎ MetLength (reply_in open_all) input a
  pub where_exact : WhereExact open_all

-- what an answer says, by its status
abbrev pub MeansStatus : List ℕ → List (List ℕ) → Files → (input : List ℕ) → Answer → Status → Type 0
MeansStatus table behind files input a Success = TellsAll table behind files input a
MeansStatus table behind files input a Limit = TellsLimit table behind files input a
MeansStatus table behind files input a Table = TellsRefusal table behind files a
MeansStatus table behind files input a Missing = TellsRefusal table behind files a
MeansStatus table behind files input a status = ⊥

-- what an answer of `ask` means: it changes no file, and each status has its cause
pub record MeansAsk (table : List ℕ) (behind : List (List ℕ)) (files : Files) (input : List ℕ)
    (a : Answer) : Type 0 where
  pub same : a.files ≡ files
  pub says : MeansStatus table behind files input a a.status
