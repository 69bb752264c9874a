-- One call after another: what calls that end with status 0 say together, over the same files or
-- over those that the call before left.
use Rattle.std.specs.Prelude.{◌≡◌, ℕ, List, [], ◌∷◌, Ok, codes}
use Rattle.frz_board.specs.Boards.{Board}
use Rattle.frz_fen.specs.Reading.{fen_of}
use Rattle.frz_index.specs.Members.{Member}
use Rattle.frz_store.specs.Bytes.{HoldsBytes}
use Rattle.frz_store.specs.Files.{Files}
use Rattle.frz_commands_atlas.specs.Behind.{backs_in, leans}
use Rattle.frz_commands_atlas.specs.FileOver.{leans_on}
use Rattle.frz_commands_verdict.specs.Links.{backs_of, value_over}
use Rattle.frz_answer.specs.declared.status.Status.TheVariants.{Success}
use Rattle.frz_answer.specs.Answers.{Answer}
use Rattle.frz_commands_ask.specs.Meaning.{TellsBounds}
use Rattle.frz_commands_atlas.specs.AtlasHeadline.{AtlasHeadline}
use Rattle.frz_commands_atlas.specs.Building.{MakesAtlas}
use Rattle.frz_atlas_top.specs.Commands.{job_of}

-- the words of each call
abbrev pub build : (rules table : List ℕ) (behind : List (List ℕ)) → List (List ℕ)
build rules table behind = codes "build" ∷ rules ∷ table ∷ behind

abbrev pub check : (table : List ℕ) (behind : List (List ℕ)) → List (List ℕ)
check table behind = codes "check" ∷ table ∷ behind

abbrev pub query : (table fen : List ℕ) → List (List ℕ)
query table fen = codes "query" ∷ table ∷ fen ∷ []

-- the call with these words, over these files of bytes and some input, gives this answer with
-- status 0
pub record Succeeds (words : List (List ℕ)) (files : Files) (a : Answer) : Type 0 where
  pub bytes : HoldsBytes files
  pub input : List ℕ
  pub answer : (job_of words).answers files input a
  pub done : a.status ≡ Success

-- the tables behind are exact, each over those before it, and TABLE is exact. FEN
-- is a position of its set, and the text tells the bounds of both sides there, which say of chess
-- what Means states, under the premise that the exits are true. Exits have the values of TABLE's
-- exit lines and, where it leans on the tables behind, of these where the lines say nothing
pub record TellsBoundsOver (table : List ℕ) (behind : List (List ℕ)) (fen : List ℕ)
    (files : Files) (text : List ℕ) : Type 0 where
  pub exact : AtlasHeadline table behind files
  pub p : Board
  pub read : fen_of fen ≡ Ok p
  pub inside : Member exact.rules.groups p
  pub tells : TellsBounds exact.rules
      (value_over (leans exact.bytes) exact.rules (backs_of exact.links)) p text

-- `build` made TABLE of the text in RULES, over the tables in the BACKs. FEN is a position of the
-- text's set, and what is told there are the bounds of both sides in the game of this text, which
-- say of chess what Means states, under the premise that the exits are true. Exits have the values
-- of its exit lines, and of the tables behind where these say nothing
pub record TellsSolvedOver (rules table : List ℕ) (behind : List (List ℕ)) (fen : List ℕ)
    (files : Files) (built : Answer) (text : List ℕ) : Type 0 where
  pub makes : MakesAtlas rules table behind files built
  pub p : Board
  pub read : fen_of fen ≡ Ok p
  pub inside : Member makes.lines.groups p
  pub tells : TellsBounds makes.lines
      (value_over (leans_on (backs_in makes.tables)) makes.lines (backs_in makes.tables)) p text
