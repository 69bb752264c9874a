-- What `query TABLE FEN` and `chainquery TABLE FEN` are to do, and what their answers mean. No file
-- changes.
use Rattle.std.specs.Prelude.{◌≡◌, ℕ, List, [], ◌∷◌, true, false, Option, Some, None}
use Rattle.frz_board.specs.declared.man.Colour.TheVariants.{White, Black}
use Rattle.frz_board.specs.Boards.{Board}
use Rattle.frz_fen.specs.Reading.{fen_of}
use Rattle.frz_index.specs.Members.{Member}
use Rattle.frz_sets.specs.declared.exit.Value.{Value}
use Rattle.frz_store.specs.Files.{Files}
use Rattle.frz_table.specs.declared.kind.FileKind.{FileKind}
use Rattle.frz_table.specs.declared.kind.FileKind.TheVariants.{Plain, Chained}
use Rattle.frz_table.specs.Opening.{Contents}
use Rattle.frz_check.specs.KeptTables.{KeepsTables}
use Rattle.frz_answer.specs.declared.status.Status.{Status}
use Rattle.frz_answer.specs.declared.status.Status.TheVariants.{Success, Table, Outside, Missing}
use Rattle.frz_answer.specs.Answers.{Answer}
use Rattle.frz_answer.specs.Jobs.{Job, Once, plain, WithinCosts}
use Rattle.frz_answer.specs.Words.{taking, two_words_of}
use Rattle.frz_bound_lines.specs.BoundLines.{kept_text}
use Rattle.frz_prelude.specs.Positions.{on_position}
use Rattle.frz_commands_ask.specs.AskedFiles.{OpensAsked, TellsAskedFault}
use Rattle.frz_commands_ask.specs.Kept.{keeping_bytes, keeping_calls, kept_at, kept_of, answer_by}
use Rattle.frz_commands_ask.specs.Meaning.{TellsBounds}

-- where the codes in the file are the tables of both sides by the values of some book, the text
-- tells the bounds of both sides by these values, and they say of chess what Means states, under
-- the premise that the exits are true. The book is that of the exit lines or, for a table over a
-- second one, that of the exit lines with the second table behind them
abbrev pub TellsWhereExact : Contents → List ℕ → Board → List ℕ → Type 0
TellsWhereExact contents bytes p text = (value : Board → Value)
    → KeepsTables value contents bytes → TellsBounds contents.rules value p text

-- the text tells the codes that the file holds at a position of its set
pub record TellsKept (kind : Option FileKind) (table : List ℕ) (p : Board) (files : Files)
    (text : List ℕ) : Type 0 where
  pub bytes : List ℕ
  pub contents : Contents
  pub open_file : OpensAsked kind table files bytes contents
  pub inside : Member contents.rules.groups p
  pub told : text ≡ kept_text (kept_at White contents bytes p) (kept_at Black contents bytes p)
  pub where_exact : TellsWhereExact contents bytes p text

-- the file opens as a table, and the position is not in its set
pub record IsOutside (kind : Option FileKind) (table : List ℕ) (p : Board) (files : Files) : Type 0 where
  pub bytes : List ℕ
  pub contents : Contents
  pub open_file : OpensAsked kind table files bytes contents
  pub outside : Member contents.rules.groups p → ⊥

-- what an answer says, by its status
abbrev pub MeansStatus : Option FileKind → List ℕ → Board → Files → Status → List ℕ → Type 0
MeansStatus kind table p files Success text = TellsKept kind table p files text
MeansStatus kind table p files Table text = TellsAskedFault kind table files text
MeansStatus kind table p files Outside text = IsOutside kind table p files
MeansStatus kind table p files Missing text = files table ≡ None
MeansStatus kind table p files status text = ⊥

-- what an answer means: it changes no file and takes no input, and each status has its cause
pub record MeansQuery (kind : Option FileKind) (table : List ℕ) (p : Board) (files : Files)
    (a : Answer) : Type 0 where
  pub same : a.files ≡ files
  pub untaken : a.taken ≡ 0
  pub says : MeansStatus kind table p files a.status a.text

-- to query a table of this kind at a position. It costs no step, and the calls of the store and the
-- bytes that open what is there; where the position is in its set, one call and four bytes more for
-- each of the two codes
abbrev pub querying_at : Option FileKind → List ℕ → Board → Job
querying_at kind table p = record (plain (Success ∷ Table ∷ Outside ∷ Missing ∷ [])
    (λ files input a. a ≡ answer_by (kept_of kind p (files table)) files)) {
      means = λ files input a. MeansQuery kind table p files a;
      needs = record { store = true; reads = Once; input = false; memory = true };
      costs = λ files input a. WithinCosts (record {
        steps = Some 0;
        calls = Some (keeping_calls kind p (files table));
        asked = Some (keeping_bytes kind p (files table));
      });
    }

-- the words TABLE FEN, for a table of this kind
abbrev pub querying_words : Option FileKind → List (List ℕ) → Job
querying_words kind words =
    taking (λ names. on_position (querying_at kind names.0) (fen_of names.1)) (two_words_of words)

-- query TABLE FEN
abbrev pub query_words : List (List ℕ) → Job
query_words words = querying_words (Some Plain) words

-- chainquery TABLE FEN
abbrev pub chainquery_words : List (List ℕ) → Job
chainquery_words words = querying_words (Some Chained) words
