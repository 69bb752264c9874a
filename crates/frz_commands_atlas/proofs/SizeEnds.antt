-- How `size` ends, what its answers mean, and that there is one.
use Rattle.std.proofs.Common.{◌≡◌, refl, sym, ap, subst, ◌∙◌, ℕ, ◌≤◌, List, [], ◌∷◌, length, Option, Some, None, Result, Ok, Err, arith}
use Rattle.std.specs.Option.{unwrap_or}
use Rattle.frz_board.specs.Boards.{Board}
use Rattle.frz_rules.specs.Text.{rules_of}
use Rattle.frz_rules.specs.declared.fault.RulesFault.{RulesFault}
use Rattle.frz_rules.proofs.Lemmas.{text_sound}
use Rattle.frz_sets.specs.Sets.{size_of}
use Rattle.frz_sets.specs.Views.{RuleLines}
use Rattle.frz_sets.specs.declared.exit.Value.{Value}
use Rattle.frz_store.specs.Files.{Files}
use Rattle.frz_table.specs.declared.kind.FileKind.{FileKind}
use Rattle.frz_table.specs.Layout.{due_length, magic_of}
use Rattle.frz_table.specs.Opening.{Contents, table_format}
use Rattle.frz_table.proofs.Lemmas.{belongs}
use Rattle.frz_check.specs.OneFile.{IsOneFile}
use Rattle.frz_check.proofs.Lemmas.{one_file_opens}
use Rattle.frz_answer.specs.declared.status.Status.TheVariants.{Success, Rules, Missing}
use Rattle.frz_answer.specs.Statuses.{OneOf}
use Rattle.frz_answer.specs.Answers.{Answer, says, SomeAnswer}
use Rattle.frz_answer.specs.Lawful.{IsLawful}
use Rattle.frz_answer.specs.Words.{one_word_of}
use Rattle.frz_answer.specs.World.{World, Agrees}
use Rattle.frz_answer.proofs.Lemmas.{one_answer, said_job, taking_lawful}
use Rattle.frz_prelude.specs.Refusals.{status_of, refusal_line}
use Rattle.frz_prelude.specs.RulesFiles.{GivesText, IsTextRead, or_fault, rules_held}
use Rattle.frz_prelude.specs.declared.refused.Refused.{Refused as Refusal}
use Rattle.frz_prelude.specs.declared.rules_at.RulesText.{RulesText}
use Rattle.frz_prelude.specs.declared.stop.Stop.{Stop}
use Rattle.frz_prelude.specs.declared.stop.Stop.TheVariants.{Refused, Fault}
use Rattle.frz_prelude.proofs.Lemmas.{StopsWith, found_where, of_rules, refusal_said}
use Rattle.frz_commands_atlas.specs.Sizing.{MeansSize, size_at, size_by, size_text, size_words, sizing_at}

-- a table of the text has the bytes that are due
due_bytes : (kind : FileKind) (value : Board → Value) (source : List ℕ) (lines : RuleLines)
    (bytes : List ℕ) → rules_of source ≡ Ok lines
    → IsOneFile (magic_of kind) source lines value bytes
    → length bytes ≡ due_length source (size_of lines.groups)
due_bytes kind value source lines bytes accepted one =
    let contents : Contents = record { text = source; rules = lines } in
    (belongs (table_format kind) bytes contents
    (one_file_opens kind value contents bytes accepted one)).file.due

module _ (rules : List ℕ) (files : Files) where
  by_text : (source : List ℕ) → files rules ≡ Some source → (read : Result RuleLines RulesFault)
      → rules_of source ≡ read → MeansSize rules files (size_by (or_fault read) source files)
  by_text source there (Ok lines) e = record {
    same = refl;
    untaken = refl;
    says = record {
      source = source;
      there = there;
      lines = lines;
      accepted = e;
      told = refl;
      few = (text_sound source lines e).size;
      disk = λ kind value bytes one. due_bytes kind value source lines bytes e one;
    };
  }
  by_text source there (Err fault) e = record {
    same = refl;
    untaken = refl;
    says = record { source = source; there = there; fault = fault; refused = e; told = refl };
  }

  by_file : (held : Option (List ℕ)) → files rules ≡ held
      → MeansSize rules files (size_by (rules_held held) (unwrap_or held []) files)
  by_file None e = record { same = refl; untaken = refl; says = e }
  by_file (Some source) e = by_text source e (rules_of source) refl

  size_means : (a : Answer) → a ≡ size_at rules files → MeansSize rules files a
  size_means a e = subst (λ (x : Answer). MeansSize rules files x) (sym e)
      (by_file (files rules) refl)

sizing_lawful : (rules : List ℕ) → IsLawful (sizing_at rules)
sizing_lawful rules =
    said_job (sizing_at rules) (λ files input. one_answer (size_at rules files))
    (λ files input a h. size_means rules files a h)

pub size_lawful : (words : List (List ℕ)) → IsLawful (size_words words)
size_lawful words = taking_lawful sizing_at (one_word_of words) sizing_lawful

-- there is an answer, and its text is not empty
some_text : (read : Result RuleLines Refusal) (text : List ℕ) (files : Files)
    → (size_by read text files).text ≡ [] → ⊥
some_text (Ok lines) text files = λ e. cc
some_text (Err why) text files = refusal_said why

pub some_size : (rules : List ℕ) (files : Files) → SomeAnswer (λ a. a ≡ size_at rules files)
some_size rules files = record {
  a = size_at rules files;
  answer = refl;
  text = some_text (rules_held (files rules)) (unwrap_or (files rules) []) files;
}

-- by what was read of the name
pub is_size : (rules : List ℕ) (files : Files) (read : RulesText) → GivesText (files rules) (Ok read)
    → says Success (size_text read.text.items read.rules.groups) files ≡ size_at rules files
is_size rules files read due =
    sym (ap (λ (h : Option (List ℕ)). size_by (rules_held h) (unwrap_or h []) files) due.0
    ∙ ap (λ (x : Result RuleLines RulesFault). size_by (or_fault x) read.text.items files) due.1)

is_refused : (held : Option (List ℕ)) (files : Files) (why : Refusal) → rules_held held ≡ Err why
    → says (status_of why) (refusal_line why) files
    ≡ size_by (rules_held held) (unwrap_or held []) files
is_refused held files why e =
    sym (ap (λ (x : Result RuleLines Refusal). size_by x (unwrap_or held []) files) e)

-- a rules file is refused with a status of `size`
pub own_stop : (held : Option (List ℕ)) (stop : Stop) → GivesText held (Err stop)
    → (why : Refusal) → stop ≡ Refused why
    → OneOf (status_of why) (Success ∷ Rules ∷ Missing ∷ [])
own_stop held stop due why is =
    of_rules (λ (w : Refusal). OneOf (status_of w) (Success ∷ Rules ∷ Missing ∷ [])) held why
    (subst (λ (s : Stop). GivesText held (Err s)) is due) refl (λ fault. refl)

-- where the rules file was not read
pub stopped_at : (rules : List ℕ) (stop : Stop) (files : Files) (input : List ℕ) (old new : World)
    → IsTextRead rules (Err stop) old.store new.store → new.steps ≤ old.steps
    → Agrees old files input → StopsWith (sizing_at rules) stop files input old new
stopped_at rules (Refused why) files input old new read steps agrees = record {
  found = found_where (sizing_at rules) read.files files input old (λ e. cc) read.agrees agrees;
  answer = is_refused (read.files rules) read.files why read.due;
  costs = record { steps = omega (arith, steps); calls = read.calls; asked = read.asked };
}
stopped_at rules (Fault fault) files input old new read steps agrees = record {
  found = found_where (sizing_at rules) read.files files input old (λ e. cc) read.agrees agrees;
  some = some_size rules read.files;
  costs = record { steps = omega (arith, steps); calls = read.calls; asked = read.asked };
}
