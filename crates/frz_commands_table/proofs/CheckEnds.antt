-- How `check` ends, and that it has one answer.
use Rattle.std.proofs.Common.{◌≡◌, refl, sym, ap, subst, ◌∙◌, ℕ, List, [], ◌∷◌, Option, Some, Result, Ok, Err}
use Rattle.std.specs.Option.{unwrap_or}
use Rattle.frz_exits.specs.Books.{value_by}
use Rattle.frz_sets.specs.Sets.{size_of}
use Rattle.frz_store.specs.Files.{Files, bytes_at}
use Rattle.frz_table.specs.declared.fault.TableFault.{TableFault}
use Rattle.frz_table.specs.declared.fault.TableFault.TheVariants.{Failed}
use Rattle.frz_table.specs.declared.kind.FileKind.TheVariants.{Plain}
use Rattle.frz_table.specs.Opening.{Contents, opened, table_format}
use Rattle.frz_table.specs.Possible.{MayHold}
use Rattle.frz_check.specs.declared.verdict.Verdict.{Verdict}
use Rattle.frz_check.specs.declared.verdict.Verdict.TheVariants as verdict
use Rattle.frz_check.specs.Kept.{kept_codes, WithinFile, RefusesFile}
use Rattle.frz_check.specs.Verdicts.{IsVerdict}
use Rattle.frz_check.proofs.Lemmas.{verdict_there, one_verdict, many_codes}
use Rattle.frz_answer.specs.declared.status.Status.{Status}
use Rattle.frz_answer.specs.declared.status.Status.TheVariants.{Success, Wrong, Table, Missing as Absent}
use Rattle.frz_answer.specs.Statuses.{OneOf}
use Rattle.frz_answer.specs.Answers.{Answer, says, SomeAnswer}
use Rattle.frz_answer.specs.Jobs.{WithinCosts}
use Rattle.frz_answer.specs.Lawful.{HasOneAnswer, IsLawful}
use Rattle.frz_answer.specs.Words.{one_word_of}
use Rattle.frz_answer.specs.World.{World, Agrees, spent}
use Rattle.frz_answer.proofs.Lemmas.{SaysAll, taking_lawful}
use Rattle.frz_prelude.specs.Refusals.{table_status}
use Rattle.frz_prelude.specs.Stops.{stop_of_table}
use Rattle.frz_prelude.specs.TableCauses.{table_line}
use Rattle.frz_prelude.specs.declared.refused.Refused.TheVariants as refusals
use Rattle.frz_prelude.proofs.Lemmas.{StopsWith, found_where, holding, some_refusal, stops_by}
use Rattle.frz_commands_table.specs.declared.judging.Judged.{Judged}
use Rattle.frz_commands_table.specs.Judging.{JudgesFile}
use Rattle.frz_commands_table.specs.Checking.{verdict_status, verdict_line, IsCheckedBy, IsCheckedAt, checking_costs}
use Rattle.frz_commands_table.specs.CheckMeans.{checking_at, check_words}
use Rattle.frz_commands_table.proofs.CheckMeaning.{check_means}
use Rattle.frz_game.proofs.Lemmas.{table_exact}

-- there is a verdict on a file that opens
some_verdict : (contents : Contents) (bytes : List ℕ)
    → (v : Verdict) × IsVerdict contents.rules (value_by contents.rules) (kept_codes contents bytes)
    v
some_verdict contents bytes =
    verdict_there contents.rules (value_by contents.rules) (kept_codes contents bytes)
    (many_codes contents bytes)

text_said : (size : ℕ) (v : Verdict) → verdict_line size v ≡ [] → ⊥
text_said size verdict.Exact e = cc
text_said size (verdict.Wrong wrong) e = cc

-- there is an answer, and only one
some_by : (x : Result Contents TableFault) (bytes : List ℕ) (files : Files)
    → SomeAnswer (λ a. IsCheckedBy x bytes files a)
some_by (Ok contents) bytes files =
    let v = some_verdict contents bytes in
    let size : ℕ = size_of contents.rules.groups in
    record {
      a = says (verdict_status v.0) (verdict_line size v.0) files;
      answer = record { verdict = v.0; judged = v.1; told = refl };
      text = text_said size v.0;
    }
some_by (Err fault) bytes files = some_refusal (refusals.Table fault) files

one_by : (x : Result Contents TableFault) (bytes : List ℕ) (files : Files) (a b : Answer)
    → IsCheckedBy x bytes files a → IsCheckedBy x bytes files b → b ≡ a
one_by (Ok contents) bytes files a b h k =
    let same : k.verdict ≡ h.verdict =
    one_verdict contents.rules (value_by contents.rules)
    (table_exact contents.rules (value_by contents.rules))
    (kept_codes contents bytes) k.verdict h.verdict k.judged h.judged in
    let say : Verdict → Answer = λ v. says (verdict_status v)
    (verdict_line (size_of contents.rules.groups) v) files in
    k.told ∙ ap say same ∙ sym h.told
one_by (Err fault) bytes files a b h k = k ∙ sym h

some_at : (table : List ℕ) (files : Files) → SomeAnswer (λ a. IsCheckedAt table files a)
some_at table files =
    some_by (opened (table_format Plain) (files table)) (bytes_at files table) files

one_at : (table : List ℕ) (files : Files) → HasOneAnswer (λ a. IsCheckedAt table files a)
one_at table files =
    let some = some_at table files in (
      some.a,
      some.answer,
      λ b k. one_by (opened (table_format Plain) (files table))
          (bytes_at files table) files some.a b some.answer k,
    )

checking_lawful : (table : List ℕ) → IsLawful (checking_at table)
checking_lawful table =
    record {
      one = λ files input. one_at table files;
      means = λ files input a are h. check_means table
          files a (are table) h;
    }

pub check_lawful : (words : List (List ℕ)) → IsLawful (check_words words)
check_lawful words = taking_lawful checking_at (one_word_of words) checking_lawful

-- what was spent is within the costs of the file
within_costs : (held : Option (List ℕ)) (old new : World)
    → WithinFile held old.store new.store old.steps new.steps
    → WithinCosts (checking_costs held) (spent old) (spent new)
within_costs held old new h = record { steps = h.steps; calls = h.calls; asked = h.asked }

module _ (table : List ℕ) (files : Files) (input : List ℕ) (old new : World)
    (agrees : Agrees old files input) where
  -- an answer of what the name may hold, in some files
  pub held_so : (status : Status) (line : List ℕ) (held : Option (List ℕ))
      → MayHold old.store.files table held
      → ((m : Files) → IsCheckedBy (opened (table_format Plain) held) (unwrap_or held []) m
      (says status line m))
      → WithinFile held old.store new.store old.steps new.steps
      → SaysAll (checking_at table) status line files input old new
  held_so status line held may answer within =
      let at = holding old.store.files table held may in
      record {
        found = found_where (checking_at table) at.files files input old (λ e. cc) at.agrees agrees;
        answer = subst (λ (h : Option (List ℕ)). IsCheckedBy (opened (table_format Plain) h)
            (unwrap_or h []) at.files (says status line at.files)) (sym at.holds) (answer at.files);
        costs = subst (λ (h : Option (List ℕ)). WithinCosts (checking_costs h) (spent old)
            (spent new)) (sym at.holds) (within_costs held old new within);
      }

  -- the verdict was told
  pub judged_so : (judged : Judged)
      → JudgesFile table old.store new.store old.steps new.steps judged
      → SaysAll (checking_at table) (verdict_status judged.verdict)
      (verdict_line judged.size judged.verdict) files input old new
  judged_so judged h =
      held_so (verdict_status judged.verdict) (verdict_line judged.size judged.verdict)
      (Some h.file.bytes) h.file.may
      (λ m. subst (λ (x : Result Contents TableFault). IsCheckedBy x h.file.bytes m
      (says (verdict_status judged.verdict) (verdict_line judged.size judged.verdict) m))
      (sym h.file.opens)
      (record {
        verdict = judged.verdict;
        judged = h.file.told.codes;
        told = ap (λ (n : ℕ). says (verdict_status judged.verdict) (verdict_line n judged.verdict)
            m) h.size;
      }))
      h.file.within

  -- the table was refused
  refused_so : (fault : TableFault)
      → (h : RefusesFile table old.store new.store old.steps new.steps fault)
      → opened (table_format Plain) h.held ≡ Err fault
      → SaysAll (checking_at table) (table_status fault) (table_line fault) files input old new
  refused_so fault h e =
      held_so (table_status fault) (table_line fault) h.held h.may
      (λ m. subst (λ (x : Result Contents TableFault). IsCheckedBy x (unwrap_or h.held []) m
      (says (table_status fault) (table_line fault) m)) (sym e) refl) h.within

  begun_so : (fault : TableFault)
      → (h : RefusesFile table old.store new.store old.steps new.steps fault)
      → StopsWith (checking_at table) (stop_of_table Failed) files input old new
  begun_so fault h =
      let at = holding old.store.files table h.held h.may in record {
        found = found_where (checking_at table) at.files files input old (λ e. cc) at.agrees agrees;
        some = some_at table at.files;
        costs = subst (λ (x : Option (List ℕ)). WithinCosts (checking_costs x) (spent old)
            (spent new)) (sym at.holds) (within_costs h.held old new h.within);
      }

  pub stopped_so : (fault : TableFault) → RefusesFile table old.store new.store old.steps new.steps
      fault
      → StopsWith (checking_at table) (stop_of_table fault) files input old new
  stopped_so fault h =
      stops_by (checking_at table) files input old new (opened (table_format Plain) h.held) fault
      (refused_so fault h) (begun_so fault h) h.refuses

-- the statuses of `check`
pub own_verdict : (v : Verdict) → OneOf (verdict_status v) (Success ∷ Wrong ∷ Table ∷ Absent ∷ [])
own_verdict verdict.Exact = refl
own_verdict (verdict.Wrong wrong) = refl
