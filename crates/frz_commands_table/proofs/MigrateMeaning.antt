-- What the answers of `migrate` mean.
use Rattle.std.proofs.Common.{◌≡◌, refl, sym, ap, subst, ◌∙◌, ℕ, ◌≤◌, Bool, cond, List, [], Option, Some, None, Result, Ok, Err, le-ltb}
use Rattle.std.specs.Option.{unwrap_or}
use Rattle.frz_combinations.specs.Binomials.{capped}
use Rattle.frz_exits.specs.Books.{value_by}
use Rattle.frz_index.specs.OldNumbers.{old_size_of}
use Rattle.frz_index.specs.declared.old.TheConstants.{MOST_OLD_NUMBERS}
use Rattle.frz_rules.specs.Text.{rules_of}
use Rattle.frz_rules.specs.declared.fault.RulesCause.TheVariants.{SetTooBig}
use Rattle.frz_rules.specs.declared.fault.RulesFault.{RulesFault}
use Rattle.frz_sets.specs.Sets.{size_of}
use Rattle.frz_sets.specs.Views.{RuleLines}
use Rattle.frz_store.specs.Files.{Files, put}
use Rattle.frz_table.specs.declared.fault.TableFault.{TableFault}
use Rattle.frz_former.specs.OldFiles.{limited_read, old_format, old_rules_of}
use Rattle.frz_table.specs.Opening.{Contents, opened}
use Rattle.frz_table.proofs.Lemmas.{opened_missing, opens_by, read_short}
use Rattle.frz_answer.specs.declared.status.Status.{Status}
use Rattle.frz_answer.specs.declared.status.Status.TheVariants as statuses
use Rattle.frz_answer.specs.Answers.{Answer, says}
use Rattle.frz_prelude.specs.Refusals.{table_status}
use Rattle.frz_prelude.specs.TableCauses.{table_line}
use Rattle.frz_prelude.proofs.Lemmas.{bytes_status}
use Rattle.frz_prelude.specs.Replies.{migrated_line}
use Rattle.frz_commands_table.specs.Migrating.{IsMigratedAt, IsMigratedBy, IsRewritten}
use Rattle.frz_commands_table.specs.MigrateMeans.{BecomesOneFile, HoldsFormerFile, IsFormerFile, MeansByStatus, MeansMigrate, RefusesOld}
use Rattle.frz_commands_table.proofs.MovedCodes.{one_file_migrated}

-- a text whose set has few former numbers is read so
few_read : (text : List ℕ) (rules : RuleLines) → rules_of text ≡ Ok rules
    → old_size_of rules.groups ≤ MOST_OLD_NUMBERS → old_rules_of text ≡ Ok rules
few_read text rules read few =
    let fault : RulesFault =
    record { line = 0; cause = SetTooBig (capped (old_size_of rules.groups)) } in
    ap limited_read read ∙ ap (λ (b : Bool). cond b (Err fault) (Ok rules))
    (le-ltb MOST_OLD_NUMBERS (old_size_of rules.groups) few)

module _ (old new : List ℕ) (files : Files) where
  -- a former file of a text opens

  former_opens : (h : HoldsFormerFile old files)
      → opened old_format (Some h.bytes) ≡ Ok (record { text = h.text; rules = h.rules })
  former_opens h =
      opens_by old_format h.bytes (record { text = h.text; rules = h.rules })
      (record {
        file = h.former.layout;
        short = read_short h.text h.rules h.accepted;
        read = few_read h.text h.rules h.accepted h.few;
      })

  same_bytes : (bytes : List ℕ) → files old ≡ Some bytes → (h : HoldsFormerFile old files)
      → h.bytes ≡ bytes
  same_bytes bytes there h = let e : Some h.bytes ≡ Some bytes = sym h.there ∙ there in cc

  opens_so : (bytes : List ℕ) → files old ≡ Some bytes → (x : Result Contents TableFault)
      → opened old_format (Some bytes) ≡ x
      → (h : HoldsFormerFile old files) → x ≡ Ok (record { text = h.text; rules = h.rules })
  opens_so bytes there x opens h =
      sym opens ∙ ap (λ (l : List ℕ). opened old_format (Some l)) (sym (same_bytes bytes there h))
      ∙ former_opens h

  -- an answer that is known
  means_as : (a b : Answer) → a ≡ b → MeansMigrate old new files b → MeansMigrate old new files a
  means_as a b e means = subst (λ (x : Answer). MeansMigrate old new files x) (sym e) means

  module _ (bytes : List ℕ) (there : files old ≡ Some bytes) where
    rewritten : (contents : Contents) → opened old_format (Some bytes) ≡ Ok contents → (a : Answer)
        → IsRewritten contents bytes new files a
        → MeansMigrate old new files a
    rewritten contents opens a h = means_as a _ h.told (record {
      untaken = refl;
      says = record {
        bytes = bytes;
        there = there;
        contents = contents;
        opens = opens;
        new_bytes = h.new_bytes;
        migrated = h.migrated;
        written = refl;
        told = refl;
      };
      exact = λ former.
          let e = opens_so bytes there (Ok contents) opens former in
          let same : contents ≡ record { text = former.text; rules = former.rules } = cc in
          subst (λ (c : Contents). BecomesOneFile c.text c.rules new files
          (says statuses.Success (migrated_line (size_of contents.rules.groups))
          (put files new h.new_bytes))) same
          (record {
            done = refl;
            new_bytes = h.new_bytes;
            one_file =
                one_file_migrated contents bytes (value_by contents.rules) h.new_bytes
                (subst (λ (c : Contents). IsFormerFile c.text c.rules (value_by c.rules) bytes)
                (sym same)
                (subst (λ (l : List ℕ). IsFormerFile former.text former.rules
                (value_by former.rules) l) (same_bytes bytes there former) former.former))
                h.migrated;
            written = refl;
          });
    })

    told_refusal : (fault : TableFault) → opened old_format (Some bytes) ≡ Err fault
        → RefusesOld old files (says statuses.Table (table_line fault) files)
    told_refusal fault e =
        record {
          bytes = bytes;
          there = there;
          fault = fault;
          refused = e;
          told = refl;
          same = refl;
        }

    says_fault : (fault : TableFault) → opened old_format (Some bytes) ≡ Err fault
        → MeansByStatus old new files (says (table_status fault) (table_line fault) files)
        (table_status fault)
    says_fault fault e =
        subst (λ (s : Status). MeansByStatus old new files (says s (table_line fault) files) s)
        (sym (bytes_status old_format bytes fault e)) (told_refusal fault e)

    by_opening : (x : Result Contents TableFault) → opened old_format (Some bytes) ≡ x
        → (a : Answer) → IsMigratedBy x bytes new files a
        → MeansMigrate old new files a
    by_opening (Ok contents) opens a h = rewritten contents opens a h
    by_opening (Err fault) refused a e = means_as a _ e (record {
      untaken = refl;
      says = says_fault fault refused;
      exact = λ former. let no = opens_so bytes there (Err fault) refused former in cc;
    })

  by_file : (held : Option (List ℕ)) → files old ≡ held → (a : Answer)
      → IsMigratedBy (opened old_format held) (unwrap_or held []) new files a
      → MeansMigrate old new files a
  by_file None none a h =
      means_as a _ (subst (λ (x : Result Contents TableFault). IsMigratedBy x [] new files a)
      (opened_missing old_format) h)
      (record {
        untaken = refl;
        says = record { none = none; same = refl };
        exact = λ former. let no : Some former.bytes ≡ None = sym former.there ∙ none in cc;
      })
  by_file (Some bytes) there a h = by_opening bytes there (opened old_format (Some bytes)) refl a h

pub migrate_means : (old new : List ℕ) (files : Files) (a : Answer) → IsMigratedAt old new files a
    → MeansMigrate old new files a
migrate_means old new files a h = by_file old new files (files old) refl a h
