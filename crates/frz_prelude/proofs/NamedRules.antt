-- What a command answers by the rules of a name: their file is missing, their text has a fault, or
-- it gives them.
use Rattle.std.proofs.Common.{◌≡◌, refl, sym, ap, subst, ℕ, List, Option, Some, None, Result, Ok, Err, codes}
use Rattle.std.specs.Option.{MatchOption}
use Rattle.std.specs.Result.{MatchResult}
use Rattle.frz_store.specs.Files.{Files}
use Rattle.frz_sets.specs.Views.{RuleLines}
use Rattle.frz_rules.specs.declared.fault.RulesFault.{RulesFault}
use Rattle.frz_rules.specs.Text.{rules_of}
use Rattle.frz_answer.specs.declared.status.Status.TheVariants as statuses
use Rattle.frz_answer.specs.Answers.{Answer, says, SomeAnswer}
use Rattle.frz_prelude.specs.Causes.{rules_line}
use Rattle.frz_prelude.specs.Refusals.{refusal_line, status_of}
use Rattle.frz_prelude.specs.RulesFiles.{or_fault, rules_held}
use Rattle.frz_prelude.specs.declared.refused.Refused.{Refused}
use Rattle.frz_prelude.specs.declared.refused.Refused.TheVariants as refused
use Rattle.frz_prelude.proofs.Stopping.{some_refusal}

-- the answers over these files, where these are the answers by a text and its rules
module _ (files : Files) (By : List ℕ → RuleLines → Answer → Type 0) where
  abbrev AtText : List ℕ → Result RuleLines RulesFault → Answer → Type 0
  AtText text read a =
      MatchResult read (λ r. By text r a)
      (λ fault. a ≡ says statuses.Rules (rules_line fault) files)

  abbrev AtName : Option (List ℕ) → Answer → Type 0
  AtName held a = MatchOption held (a ≡ says statuses.Missing (codes "missing rules\n") files)
      (λ text. AtText text (rules_of text) a)

  some_in : ((text : List ℕ) (r : RuleLines) → rules_of text ≡ Ok r → SomeAnswer (λ a. By text r a))
      → (text : List ℕ) (read : Result RuleLines RulesFault) → rules_of text ≡ read
      → SomeAnswer (λ a. AtText text read a)
  some_in some text (Ok r) e = some text r e
  some_in some text (Err fault) e = some_refusal (refused.Rules fault) files

  -- there is one
  pub some_named : ((text : List ℕ) (r : RuleLines) → rules_of text ≡ Ok r
      → SomeAnswer (λ a. By text r a)) → (held : Option (List ℕ)) → SomeAnswer (λ a. AtName held a)
  some_named some None = some_refusal refused.MissingRules files
  some_named some (Some text) = some_in some text (rules_of text) refl

  refused_in : (text : List ℕ) (why : Refused) (read : Result RuleLines RulesFault)
      → or_fault read ≡ Err why
      → AtText text read (says (status_of why) (refusal_line why) files)
  refused_in text why (Ok r) e = cc
  refused_in text why (Err fault) e =
      let same : refused.Rules fault ≡ why = cc in
      ap (λ w. says (status_of w) (refusal_line w) files) (sym same)

  -- at a name that gives no rules
  pub refused_named : (why : Refused) (held : Option (List ℕ)) → rules_held held ≡ Err why
      → AtName held (says (status_of why) (refusal_line why) files)
  refused_named why None e =
      let same : refused.MissingRules ≡ why = cc in
      ap (λ w. says (status_of w) (refusal_line w) files) (sym same)
  refused_named why (Some text) e = refused_in text why (rules_of text) e

  read_in : (text : List ℕ) (r : RuleLines) (a : Answer) (read : Result RuleLines RulesFault)
      → or_fault read ≡ Ok r → By text r a → AtText text read a
  read_in text r a (Ok s) e h =
      let same : r ≡ s = cc in subst (λ (t : RuleLines). By text t a) same h
  read_in text r a (Err fault) e h = cc

  -- at a name that gives these rules
  pub read_named : (r : RuleLines) (a : Answer) (held : Option (List ℕ)) → rules_held held ≡ Ok r
      → ((text : List ℕ) → held ≡ Some text → By text r a) → AtName held a
  read_named r a None e h = cc
  read_named r a (Some text) e h = read_in text r a (rules_of text) e (h text refl)
