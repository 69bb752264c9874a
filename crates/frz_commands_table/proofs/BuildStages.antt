-- What the definition of `build` says at each of its stages.
use Rattle.std.proofs.Common.{◌≡◌, refl, sym, ap, subst, ◌∙◌, ℕ, List, Some, Ok, Err}
use Rattle.frz_store.specs.Files.{Files, put}
use Rattle.frz_answer.specs.declared.status.Status.TheVariants.{Success}
use Rattle.frz_answer.specs.Answers.{Answer, says, SomeAnswer}
use Rattle.frz_answer.proofs.Lemmas.{IsStage}
use Rattle.frz_prelude.specs.Refusals.{status_of, refusal_line}
use Rattle.frz_prelude.specs.Replies.{built_line}
use Rattle.frz_prelude.specs.RulesFiles.{or_fault, rules_held}
use Rattle.frz_prelude.specs.declared.refused.Refused.{Refused}
use Rattle.frz_prelude.proofs.Lemmas.{read_named, refused_named, some_named}
use Rattle.frz_rules.specs.Text.{rules_of}
use Rattle.frz_sets.specs.Views.{RuleLines}
use Rattle.frz_sets.specs.Sets.{size_of}
use Rattle.frz_sets.specs.Sound.{IsSound}
use Rattle.frz_exits.specs.Books.{value_by}
use Rattle.frz_table.specs.declared.kind.FileKind.TheVariants.{Plain}
use Rattle.frz_table.specs.Layout.{magic_of}
use Rattle.frz_game.proofs.Lemmas.{table_there}
use Rattle.frz_check.specs.OneFile.{IsOneFile}
use Rattle.frz_rules.proofs.Lemmas.{text_sound}
use Rattle.frz_check.proofs.Lemmas.{file_there, small_lags}
use Rattle.frz_commands_table.specs.Building.{IsBuiltBy, IsBuiltAt, building_by}
use Rattle.frz_commands_table.specs.BuildMeaning.{building_at}

-- there is one file
one_file_there : (text : List ℕ) (r : RuleLines) → IsSound r → (bytes : List ℕ)
    × IsOneFile (magic_of Plain) text r (value_by r) bytes
one_file_there text r sound =
    file_there r (value_by r) (table_there r (value_by r) (small_lags r sound)) (magic_of Plain)
    text

-- the one file of an equal text, by the values of equal rules
pub file_as : (text other : List ℕ) (r b : RuleLines) (bytes : List ℕ) → text ≡ other → b ≡ r
    → IsOneFile (magic_of Plain) text r (value_by b) bytes
    → IsOneFile (magic_of Plain) other r (value_by r) bytes
file_as text other r b bytes e f one =
    subst (λ (t : List ℕ). IsOneFile (magic_of Plain) t r (value_by r) bytes) e
    (subst (λ (s : RuleLines). IsOneFile (magic_of Plain) text r (value_by s) bytes) f one)

-- there is an answer at each stage
some_built_by : (text : List ℕ) (r : RuleLines) → IsSound r → (table : List ℕ) (m : Files)
    → SomeAnswer (λ a. IsBuiltBy text r table m a)
some_built_by text r sound table m =
    let file = one_file_there text r sound in record {
      a = says Success (built_line (size_of r.groups)) (put m table file.0);
      answer = (file.0, file.1, refl);
      text = λ e. cc;
    }

abbrev By : List ℕ → Files → List ℕ → RuleLines → Answer → Type 0
By table m text r a = IsBuiltBy text r table m a

pub some_built_at : (rules table : List ℕ) (m : Files) → SomeAnswer (λ a. IsBuiltAt rules table m a)
some_built_at rules table m =
    some_named m (By table m) (λ text r read. some_built_by text r (text_sound text r read) table m)
    (m rules)

module _ (table : List ℕ) (m : Files) where
  pub is_refused_at : (rules : List ℕ) (why : Refused) → rules_held (m rules) ≡ Err why
      → IsBuiltAt rules table m (says (status_of why) (refusal_line why) m)
  is_refused_at rules why e = refused_named m (By table m) why (m rules) e

  pub is_read_at : (rules text : List ℕ) (r : RuleLines) (a : Answer) → m rules ≡ Some text
      → rules_of text ≡ Ok r → IsBuiltBy text r table m a → IsBuiltAt rules table m a
  is_read_at rules text r a held read h =
      read_named m (By table m) r a (m rules) (ap rules_held held ∙ ap or_fault read)
      (λ other there.
      let same : Some text ≡ Some other = sym held ∙ there in
      let is : text ≡ other = cc in
      subst (λ (t : List ℕ). IsBuiltBy t r table m a) is h)

pub at_stage : (text : List ℕ) (r : RuleLines) (rules table : List ℕ)
    → IsStage (building_by text r table) (building_at rules table)
at_stage text r rules table =
    record {
      statuses = refl;
      store = λ h. h;
      reads = λ e. refl;
      input = λ h. cc;
      memory = λ h. h;
      speaks = λ e. e;
      writes = refl;
    }
