-- What `why TABLE FEN SIDE BACK ..` answers, by what the names hold. No file changes.
use Rattle.std.specs.Prelude.{◌≡◌, ℕ, List, slice_index, MatchBool, Option}
use Rattle.frz_board.specs.declared.man.Colour.{Colour}
use Rattle.frz_board.specs.Boards.{Board}
use Rattle.frz_sets.specs.declared.exit.Value.{Value}
use Rattle.frz_index.specs.Members.{Num}
use Rattle.frz_game.specs.Numbers.{is_member}
use Rattle.frz_game.specs.declared.wrong.Wrong.{Wrong}
use Rattle.frz_store.specs.Files.{Files}
use Rattle.frz_table.specs.Opening.{Contents}
use Rattle.frz_check.specs.Kept.{kept_codes}
use Rattle.frz_backs.specs.Links.{value_over}
use Rattle.frz_atlas_prelude.specs.Behind.{TableBytes, backs_in, leans}
use Rattle.frz_answer.specs.Answers.{Answer, says}
use Rattle.frz_prelude.specs.Refusals.{refusal_line, status_of}
use Rattle.frz_prelude.specs.declared.refused.Refused.TheVariants as refusals
use Rattle.frz_atlas_prelude.specs.Over.{IsAnswerOver}
use Rattle.frz_exit_lines.specs.Numbers.{exit_numbers_of}
use Rattle.frz_commands_why.specs.declared.decider.Decider.{Decider}
use Rattle.frz_commands_why.specs.Deciders.{decider_of}
use Rattle.frz_commands_why.specs.Telling.{ToldAt, why_text}
use Rattle.frz_commands_why.specs.Texts.{status_by}

-- the values of positions outside TABLE's set: by its exit lines and, where it leans on others, by
-- the first of the tables behind whose set holds the position, where the lines say nothing
abbrev pub value_behind : Contents → (bytes : List ℕ) → List TableBytes → Board → Value
value_behind contents bytes tables =
    value_over (leans bytes) contents.rules (backs_in tables)

-- what decides such a value
abbrev pub decider_behind : Contents → (bytes : List ℕ) → List TableBytes → Board → Decider
decider_behind contents bytes tables =
    decider_of (leans bytes) (exit_numbers_of contents.text) contents.rules (backs_in tables)

-- the code of the side at a position of the set, by the bytes of TABLE
abbrev pub code_at : Contents → (bytes : List ℕ) → Colour → Board → ℕ
code_at contents bytes side p =
    slice_index (kept_codes contents bytes side) (Num contents.rules.groups p)

-- what is told of a position of TABLE's set, over these tables
abbrev pub IsToldOf : Contents → (bytes : List ℕ) → List TableBytes → Colour → Board → List ℕ →
    Option Wrong → Type 0
IsToldOf contents bytes tables side p text wrong =
    ToldAt contents.rules (value_behind contents bytes tables) side
    (kept_codes contents bytes) (decider_behind contents bytes tables)
    (Num contents.rules.groups p) text wrong

-- the answer at a position of the set
pub record IsWhyAnswer (contents : Contents) (bytes : List ℕ) (tables : List TableBytes)
    (side : Colour) (p : Board) (files : Files) (a : Answer) : Type 0 where
  pub text : List ℕ
  pub wrong : Option Wrong
  pub told : IsToldOf contents bytes tables side p text wrong
  pub is : a ≡ says (status_by wrong)
      (why_text side (code_at contents bytes side p) text wrong) files

-- the answer where TABLE and the BACKs open: a position outside the set is refused
abbrev pub IsWhyOver : Colour → Board → Files → Contents → (bytes : List ℕ) → List TableBytes →
    Answer → Type 0
IsWhyOver side p files contents bytes tables a = MatchBool (is_member contents.rules.groups p)
    (IsWhyAnswer contents bytes tables side p files a)
    (a ≡ says (status_of refusals.Outside) (refusal_line refusals.Outside) files)

-- the answer of `why` on the file that has the name and those that have the names behind it
abbrev pub IsWhyAt : List ℕ → List (List ℕ) → Colour → Board → Files → Answer → Type 0
IsWhyAt table behind side p files a =
    IsAnswerOver (IsWhyOver side p files) table behind files a
