-- What the answers of `why` mean.
use Rattle.std.specs.Prelude.{◌≡◌, ◌++◌, ℕ, List, [], map, length, MatchBool, Some, Ok, codes}
use Rattle.frz_board.specs.declared.man.Colour.{Colour}
use Rattle.frz_board.specs.Boards.{Board}
use Rattle.frz_board.specs.Men.{other_of}
use Rattle.frz_board.specs.Moving.{Step}
use Rattle.frz_sets.specs.declared.exit.Value.{Value}
use Rattle.frz_index.specs.Members.{Member, Num}
use Rattle.frz_store.specs.Files.{Files}
use Rattle.frz_arena.specs.declared.arm.Arm.{Arm}
use Rattle.frz_arena.specs.declared.bound.Bound.TheVariants.{Wins, Holds, Fails}
use Rattle.frz_arena.specs.Codes.{code_of, is_failure}
use Rattle.frz_game.specs.Games.{graph_by}
use Rattle.frz_game.specs.declared.wrong.Wrong.{Wrong as WrongEntry}
use Rattle.frz_table.specs.Opening.{Contents}
use Rattle.frz_check.specs.Kept.{kept_codes}
use Rattle.frz_check.specs.KeptTables.{KeepsBound, KeepsTables}
use Rattle.frz_atlas_prelude.specs.Behind.{TableBytes, backs_in, leans}
use Rattle.frz_atlas_prelude.specs.Loading.{opened_all}
use Rattle.frz_answer.specs.declared.status.Status.{Status}
use Rattle.frz_answer.specs.declared.status.Status.TheVariants.{Success, Wrong, Table, Outside, Missing}
use Rattle.frz_answer.specs.Answers.{Answer}
use Rattle.frz_bound_lines.specs.BoundLines.{kept_line}
use Rattle.frz_atlas_prelude.specs.OwnFiles.{OpensAsOwn}
use Rattle.frz_atlas_prelude.specs.TableRefusals.{TellsRefusal}
use Rattle.frz_reasons.specs.declared.denial.Denial.{Denial}
use Rattle.frz_reasons.specs.declared.reason.Reason.{Reason}
use Rattle.frz_reasons.specs.declared.reason.Reason.TheVariants.{Left}
use Rattle.frz_reasons.specs.FailingGames.{EndsAt, IsGameFrom, IsRight, IsSpoiled, position_behind}
use Rattle.frz_reasons.specs.FailingWays.{FailsFrom}
use Rattle.frz_reasons.specs.ReasonTexts.{denials_text, moves_text}
use Rattle.frz_commands_why.specs.Best.{AreBest}
use Rattle.frz_commands_why.specs.Decides.{Decides}
use Rattle.frz_commands_why.specs.Denying.{AreDenials}
use Rattle.frz_commands_why.specs.Telling.{why_text}
use Rattle.frz_commands_why.specs.Texts.{end_text}
use Rattle.frz_commands_why.specs.WhyOf.{IsToldOf, code_at, decider_behind, value_behind}

-- TABLE and the BACKs open, each as its own kind
pub record Opens (table : List ℕ) (behind : List (List ℕ)) (files : Files) : Type 0 where
  pub bytes : List ℕ
  pub contents : Contents
  pub open_file : OpensAsOwn table files bytes contents
  pub tables : List TableBytes
  pub all_open : opened_all (map files behind) ≡ Ok tables

-- the bound of the side is a win, and nothing more is told
pub record TellsWin (contents : Contents) (bytes : List ℕ) (tables : List TableBytes)
    (side : Colour) (p : Board) (text : List ℕ) : Type 0 where
  pub plies : ℕ
  pub win : code_at contents bytes side p ≡ code_of (Wins plies)
  pub told : text ≡ kept_line side (code_at contents bytes side p)

-- the side has no bound, and this is the way on which it fails: a game of chess from the position,
-- of so many moves as the code says, with its reason at the end. A value outside is the one that
-- counts, and was decided by the line or table that is told. By the exact table of the side, no
-- move of the opponent spoils sooner, and no free move of the side lasts longer
pub record TellsNone (contents : Contents) (bytes : List ℕ) (tables : List TableBytes)
    (side : Colour) (p : Board) (text : List ℕ) : Type 0 where
  pub plies : ℕ
  pub none : code_at contents bytes side p ≡ code_of (Fails plies)
  pub arms : List (Arm Step ℕ Value)
  pub reason : Reason
  pub way : FailsFrom (graph_by contents.rules (value_behind contents bytes tables)) side
      (kept_codes contents bytes side) (Num contents.rules.groups p) arms reason
  pub right : IsRight reason
  pub many : length arms ≡ plies
  pub game : IsGameFrom contents.rules side p arms
  pub ends : EndsAt contents.rules (value_behind contents bytes tables) side
      (position_behind p arms) reason
  pub spoiled : IsSpoiled side reason
  pub decided : (number : ℕ) (m : Step) (value : Value) → reason ≡ Left number m value →
      Decides (leans bytes) contents.text contents.rules (backs_in tables) (position_behind p arms)
      value (decider_behind contents bytes tables (position_behind p arms))
  pub told : text ≡ kept_line side (code_at contents bytes side p)
      ++ (moves_text arms
      ++ end_text contents.rules.groups (decider_behind contents bytes tables) reason)
  pub best : KeepsTables (value_behind contents bytes tables) contents bytes →
      AreBest contents.rules (value_behind contents bytes tables) side
      (Num contents.rules.groups p) arms

-- the bound is a hold, and these are the rows that tell how a win is denied to the side. Behind
-- them the same is told of an opponent that has no bound as of a side that has none, and else nothing
pub record TellsHold (contents : Contents) (bytes : List ℕ) (tables : List TableBytes)
    (side : Colour) (p : Board) (text : List ℕ) : Type 0 where
  pub hold : code_at contents bytes side p ≡ code_of Holds
  pub denials : List Denial
  pub rows : AreDenials contents.rules (value_behind contents bytes tables) side
      (kept_codes contents bytes side) p denials
  pub behind : List ℕ
  pub opponent : MatchBool (is_failure (code_at contents bytes (other_of side) p))
      (TellsNone contents bytes tables (other_of side) p behind) (behind ≡ [])
  pub told : text ≡ kept_line side (code_at contents bytes side p)
      ++ (denials_text denials ++ behind)

-- the bound of the side is told, and why it has no better one
pub data TellsBound (contents : Contents) (bytes : List ℕ) (tables : List TableBytes)
    (side : Colour) (p : Board) (text : List ℕ) : Type 0 where
  wins : TellsWin contents bytes tables side p text → TellsBound contents bytes tables side p text
  holds : TellsHold contents bytes tables side p text →
      TellsBound contents bytes tables side p text
  fails : TellsNone contents bytes tables side p text → TellsBound contents bytes tables side p text

-- the position is in TABLE's set, and the text tells its bound. Where the codes in TABLE are its
-- tables over the BACKs, the code of each position is that of its bound, which says of chess what
-- Means states, under the premise that the exits are true
pub record TellsAll (table : List ℕ) (behind : List (List ℕ)) (side : Colour) (p : Board)
    (files : Files) (text : List ℕ) : Type 0 where
  pub open_all : Opens table behind files
  pub inside : Member open_all.contents.rules.groups p
  pub bound : TellsBound open_all.contents open_all.bytes open_all.tables side p text
  pub where_exact : KeepsTables
      (value_behind open_all.contents open_all.bytes open_all.tables)
      open_all.contents open_all.bytes →
      (q : Board) → Member open_all.contents.rules.groups q →
      KeepsBound open_all.contents.rules
      (value_behind open_all.contents open_all.bytes open_all.tables) side q
      (code_at open_all.contents open_all.bytes side q)

-- a code that was met is not the local one, which does not happen by the exact tables
pub record TellsWrong (table : List ℕ) (behind : List (List ℕ)) (side : Colour) (p : Board)
    (files : Files) (text : List ℕ) : Type 0 where
  pub open_all : Opens table behind files
  pub inside : Member open_all.contents.rules.groups p
  pub lines : List ℕ
  pub wrong : WrongEntry
  pub told : IsToldOf open_all.contents open_all.bytes open_all.tables side p lines (Some wrong)
  pub text_is : text
      ≡ why_text side (code_at open_all.contents open_all.bytes side p) lines (Some wrong)
  pub not_exact : KeepsTables
      (value_behind open_all.contents open_all.bytes open_all.tables)
      open_all.contents open_all.bytes → ⊥

-- TABLE and the BACKs open, and the position is not in TABLE's set
pub record TellsOutside (table : List ℕ) (behind : List (List ℕ)) (p : Board) (files : Files)
    (text : List ℕ) : Type 0 where
  pub open_all : Opens table behind files
  pub outside : Member open_all.contents.rules.groups p → ⊥
  pub told : text ≡ codes "outside\n"

-- what an answer says, by its status
abbrev pub MeansStatus : List ℕ → List (List ℕ) → Colour → Board → Files → Answer → Status → Type 0
MeansStatus table behind side p files a Success = TellsAll table behind side p files a.text
MeansStatus table behind side p files a Wrong = TellsWrong table behind side p files a.text
MeansStatus table behind side p files a Table = TellsRefusal table behind files a
MeansStatus table behind side p files a Outside = TellsOutside table behind p files a.text
MeansStatus table behind side p files a Missing = TellsRefusal table behind files a
MeansStatus table behind side p files a status = ⊥

-- what an answer of `why` means: it changes no file and takes no input, and each status has its
-- cause
pub record MeansWhy (table : List ℕ) (behind : List (List ℕ)) (side : Colour) (p : Board)
    (files : Files) (a : Answer) : Type 0 where
  pub same : a.files ≡ files
  pub untaken : a.taken ≡ 0
  pub says : MeansStatus table behind side p files a a.status
