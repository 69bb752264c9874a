-- What the answers of `build` mean.
use Rattle.std.proofs.Common.{◌≡◌, ℕ, List, Result, Option, Some, None, Ok, Err, refl, sym, subst, codes}
use Rattle.std.specs.Option.{MatchOption}
use Rattle.std.specs.Result.{MatchResult}
use Rattle.frz_store.specs.Files.{Files}
use Rattle.frz_answer.specs.declared.status.Status.TheVariants.{Rules, Missing}
use Rattle.frz_answer.specs.Answers.{Answer, says}
use Rattle.frz_prelude.specs.Causes.{rules_line}
use Rattle.frz_rules.specs.declared.fault.RulesFault.{RulesFault}
use Rattle.frz_rules.specs.Text.{rules_of}
use Rattle.frz_sets.specs.Views.{RuleLines}
use Rattle.frz_commands_table.specs.Building.{IsBuiltBy, IsBuiltIn}
use Rattle.frz_commands_table.specs.BuildMeaning.{MeansBuild}

module _ (rules table : List ℕ) (files : Files) where
  -- an answer that is known
  means_as : (a b : Answer) → a ≡ b → MeansBuild rules table files b
      → MeansBuild rules table files a
  means_as a b e means = subst (λ (x : Answer). MeansBuild rules table files x) (sym e) means

  module _ (source : List ℕ) (there : files rules ≡ Some source) where
    by_rules : (a : Answer) (r : RuleLines) → rules_of source ≡ Ok r
        → IsBuiltBy source r table files a → MeansBuild rules table files a
    by_rules a r accepted (bytes, one, e) = means_as a _ e (record {
      untaken = refl;
      says = record {
        source = source;
        there = there;
        lines = r;
        accepted = accepted;
        bytes = bytes;
        one_file = one;
        written = refl;
        told = refl;
      };
    })

    in_text : (a : Answer) (x : Result RuleLines RulesFault) → rules_of source ≡ x
        → MatchResult x (λ r. IsBuiltBy source r table files a)
        (λ fault. a ≡ says Rules (rules_line fault) files) → MeansBuild rules table files a
    in_text a (Ok r) accepted h = by_rules a r accepted h
    in_text a (Err fault) refused e = means_as a _ e (record {
      untaken = refl;
      says = record {
        source = source;
        there = there;
        fault = fault;
        refused = refused;
        told = refl;
        same = refl;
      };
    })

  by_name : (a : Answer) (held : Option (List ℕ)) → files rules ≡ held
      → MatchOption held (a ≡ says Missing (codes "missing rules\n") files)
      (λ text. IsBuiltIn text table files a) → MeansBuild rules table files a
  by_name a None none e =
      means_as a _ e (record { untaken = refl; says = record { none = none; same = refl } })
  by_name a (Some source) there h = in_text source there a (rules_of source) refl h

  pub build_means : (a : Answer)
      → MatchOption (files rules) (a ≡ says Missing (codes "missing rules\n") files)
      (λ text. IsBuiltIn text table files a)
      → MeansBuild rules table files a
  build_means a h = by_name a (files rules) refl h
