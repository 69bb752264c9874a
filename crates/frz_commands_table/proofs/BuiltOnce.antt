-- That `build` has an answer, and only one.
use Rattle.std.proofs.Common.{◌≡◌, sym, ap, ◌∙◌, ℕ, List, Option, Some, None, Result, Ok, Err, codes}
use Rattle.std.specs.Str.{bytes_eq}
use Rattle.std.specs.Option.{MatchOption}
use Rattle.std.specs.Result.{MatchResult}
use Rattle.frz_store.specs.Files.{Files, put}
use Rattle.frz_answer.specs.declared.status.Status.TheVariants.{Success, Rules, Missing}
use Rattle.frz_answer.specs.Answers.{Answer, says}
use Rattle.frz_answer.specs.Lawful.{HasOneAnswer, IsLawful}
use Rattle.frz_answer.specs.Words.{two_words_of, unless}
use Rattle.frz_answer.proofs.Lemmas.{taking_lawful, unless_lawful}
use Rattle.frz_prelude.specs.Causes.{rules_line}
use Rattle.frz_prelude.specs.Replies.{built_line}
use Rattle.frz_rules.specs.declared.fault.RulesFault.{RulesFault}
use Rattle.frz_rules.specs.Text.{rules_of}
use Rattle.frz_sets.specs.Views.{RuleLines}
use Rattle.frz_sets.specs.Sets.{size_of}
use Rattle.frz_exits.specs.Books.{value_by}
use Rattle.frz_table.specs.declared.kind.FileKind.TheVariants.{Plain}
use Rattle.frz_table.specs.Layout.{magic_of}
use Rattle.frz_game.proofs.Lemmas.{table_one}
use Rattle.frz_check.proofs.Lemmas.{one_file}
use Rattle.frz_commands_table.specs.Building.{IsBuiltBy, IsBuiltIn, IsBuiltAt}
use Rattle.frz_commands_table.specs.BuildMeaning.{building_at, build_words}
use Rattle.frz_commands_table.proofs.BuildStages.{some_built_at}
use Rattle.frz_commands_table.proofs.BuildMeaning.{build_means}

module _ (table : List ℕ) (m : Files) (a b : Answer) where
  -- there is only one file of a text, so two answers are equal
  one_by : (text : List ℕ) (r : RuleLines) → IsBuiltBy text r table m a → IsBuiltBy text r table m b
      → b ≡ a
  one_by text r (bytes, one, e) (others, other, e') =
      let same : others ≡ bytes = one_file r (value_by r) (table_one r (value_by r))
      (magic_of Plain) text others bytes other one in
      e' ∙ ap (λ (x : List ℕ). says Success (built_line (size_of r.groups)) (put m table x)) same
      ∙ sym e

  one_in : (text : List ℕ) (x : Result RuleLines RulesFault)
      → MatchResult x (λ r. IsBuiltBy text r table m a)
      (λ fault. a ≡ says Rules (rules_line fault) m)
      → MatchResult x (λ r. IsBuiltBy text r table m b)
      (λ fault. b ≡ says Rules (rules_line fault) m) → b ≡ a
  one_in text (Ok r) h k = one_by text r h k
  one_in text (Err fault) h k = k ∙ sym h

  one_at : (held : Option (List ℕ))
      → MatchOption held (a ≡ says Missing (codes "missing rules\n") m)
      (λ text. IsBuiltIn text table m a)
      → MatchOption held (b ≡ says Missing (codes "missing rules\n") m)
      (λ text. IsBuiltIn text table m b) → b ≡ a
  one_at None h k = k ∙ sym h
  one_at (Some text) h k = one_in text (rules_of text) h k

one_built : (rules table : List ℕ) (m : Files) → HasOneAnswer (λ a. IsBuiltAt rules table m a)
one_built rules table m =
    let some = some_built_at rules table m in
    (some.a, some.answer, λ b k. one_at table m some.a b (m rules) some.answer k)

building_lawful : (rules table : List ℕ) → IsLawful (building_at rules table)
building_lawful rules table =
    record {
      one = λ files input. one_built rules table files;
      means = λ files input a are h. build_means rules table files a h;
    }

pub build_lawful : (words : List (List ℕ)) → IsLawful (build_words words)
build_lawful words =
    taking_lawful (λ (names : List ℕ × List ℕ). unless (bytes_eq names.0 names.1)
    (building_at names.0 names.1)) (two_words_of words)
    (λ names. unless_lawful (bytes_eq names.0 names.1) (building_at names.0 names.1)
    (building_lawful names.0 names.1))
