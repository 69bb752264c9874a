-- That `why` has one answer, which means what it is to mean.
use Rattle.std.proofs.Common.{◌≡◌, sym, ap, ◌∙◌, ℕ, List, Bool, true, false, Option}
use Rattle.std.specs.Prelude.{MatchBool}
use Rattle.frz_board.specs.Boards.{Board}
use Rattle.frz_board.specs.declared.man.Colour.{Colour}
use Rattle.frz_fen.specs.Reading.{fen_of}
use Rattle.frz_index.specs.Members.{Num}
use Rattle.frz_game.specs.Numbers.{is_member}
use Rattle.frz_game.specs.declared.wrong.Wrong.{Wrong as WrongEntry}
use Rattle.frz_store.specs.Files.{Files}
use Rattle.frz_table.specs.Opening.{Contents}
use Rattle.frz_check.specs.Kept.{kept_codes}
use Rattle.frz_atlas_prelude.specs.Behind.{TableBytes}
use Rattle.frz_answer.specs.Answers.{Answer, says}
use Rattle.frz_answer.specs.Lawful.{HasOneAnswer, IsLawful}
use Rattle.frz_prelude.specs.Positions.{on_position}
use Rattle.frz_prelude.specs.Refusals.{refusal_line, status_of}
use Rattle.frz_prelude.specs.declared.refused.Refused.TheVariants as refusals
use Rattle.frz_prelude.proofs.Lemmas.{fen_lawful}
use Rattle.frz_atlas_prelude.specs.Asked.{AskedNames}
use Rattle.frz_atlas_prelude.proofs.Lemmas.{asked_lawful, one_over}
use Rattle.frz_commands_line.specs.Sides.{side_of}
use Rattle.frz_commands_line.proofs.Lemmas.{side_lawful}
use Rattle.frz_commands_why.specs.Asking.{asking_at, asking_named, why_words}
use Rattle.frz_commands_why.specs.Telling.{why_text}
use Rattle.frz_commands_why.specs.Texts.{status_by}
use Rattle.frz_commands_why.specs.WhyOf.{IsWhyAnswer, IsWhyAt, IsWhyOver, code_at, decider_behind, value_behind}
use Rattle.frz_commands_why.proofs.OneTelling.{WayAlone, WayThere, told_once}
use Rattle.frz_commands_why.proofs.Running.{some_opened}
use Rattle.frz_commands_why.proofs.WhyMeans.{WayLaws, why_means}

module _ (alone : WayAlone) (side : Colour) (p : Board) (files : Files) (a b : Answer) where
  one_inside : (contents : Contents) (bytes : List ℕ) (tables : List TableBytes) (inside : Bool)
      → MatchBool inside (IsWhyAnswer contents bytes tables side p files a)
      (a ≡ says (status_of refusals.Outside) (refusal_line refusals.Outside) files)
      → MatchBool inside (IsWhyAnswer contents bytes tables side p files b)
      (b ≡ says (status_of refusals.Outside) (refusal_line refusals.Outside) files) → b ≡ a
  one_inside contents bytes tables true h k =
      let code = code_at contents bytes side p in
      let same = told_once contents.rules (value_behind contents bytes tables) side
      (kept_codes contents bytes) (decider_behind contents bytes tables)
      (Num contents.rules.groups p) alone k.text h.text k.wrong h.wrong k.told h.told in
      k.is
      ∙ ap (λ (t : List ℕ). says (status_by k.wrong) (why_text side code t k.wrong) files) same.0
      ∙ ap (λ (w : Option WrongEntry). says (status_by w) (why_text side code h.text w) files)
      same.1
      ∙ sym h.is
  one_inside contents bytes tables false h k = k ∙ sym h

module _ (there : WayThere) (alone : WayAlone) (laws : WayLaws) where
  one_at : (table : List ℕ) (behind : List (List ℕ)) (side : Colour) (p : Board) (files : Files)
      → HasOneAnswer (λ a. IsWhyAt table behind side p files a)
  one_at table behind side p files =
      one_over (IsWhyOver side p files) table behind files (some_opened there side p files)
      (λ contents bytes tables a b. one_inside alone side p files a b contents bytes tables
      (is_member contents.rules.groups p))

  asking_lawful : (table : List ℕ) (behind : List (List ℕ)) (side : Colour) (p : Board)
      → IsLawful (asking_at table behind side p)
  asking_lawful table behind side p = record {
    one = λ files input. one_at table behind side p files;
    means = λ files input a are h. why_means laws table behind side p files a h;
  }

  named_lawful : (names : AskedNames) → IsLawful (asking_named names)
  named_lawful names =
      side_lawful (λ side. on_position (asking_at names.table names.behind side)
      (fen_of names.fen)) (side_of names.side)
      (λ side. fen_lawful (asking_at names.table names.behind side) (fen_of names.fen)
      (λ p read. asking_lawful names.table names.behind side p))

  pub why_lawful : (words : List (List ℕ)) → IsLawful (why_words words)
  why_lawful words = asked_lawful 0 asking_named named_lawful words
