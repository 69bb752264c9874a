-- That `migrate` has an answer, and only one.
use Rattle.std.proofs.Common.{◌≡◌, refl, sym, ap, ◌∙◌, ℕ, List, Result, Ok, Err}
use Rattle.std.specs.Str.{bytes_eq}
use Rattle.frz_sets.specs.Sets.{size_of}
use Rattle.frz_store.specs.Files.{Files, bytes_at, put}
use Rattle.frz_table.specs.declared.fault.TableFault.{TableFault}
use Rattle.frz_former.specs.OldFiles.{old_format}
use Rattle.frz_table.specs.Opening.{Contents, opened}
use Rattle.frz_answer.specs.declared.status.Status.TheVariants.{Success}
use Rattle.frz_answer.specs.Answers.{Answer, says, SomeAnswer}
use Rattle.frz_answer.specs.Lawful.{HasOneAnswer, IsLawful}
use Rattle.frz_answer.specs.Words.{two_words_of, unless}
use Rattle.frz_answer.proofs.Lemmas.{taking_lawful, unless_lawful}
use Rattle.frz_prelude.specs.declared.refused.Refused.TheVariants as refusals
use Rattle.frz_prelude.proofs.Lemmas.{some_refusal}
use Rattle.frz_prelude.specs.Replies.{migrated_line}
use Rattle.frz_commands_table.specs.Migrating.{IsMigratedAt, IsMigratedBy}
use Rattle.frz_commands_table.specs.MigrateMeans.{migrating_at, migrate_words}
use Rattle.frz_commands_table.proofs.MigrateMeaning.{migrate_means}
use Rattle.frz_commands_table.proofs.MovedCodes.{one_migrated, some_migrated}

some_by : (x : Result Contents TableFault) (bytes new : List ℕ) (files : Files)
    → SomeAnswer (λ a. IsMigratedBy x bytes new files a)
some_by (Ok contents) bytes new files =
    let file = some_migrated contents bytes in record {
      a = says Success (migrated_line (size_of contents.rules.groups)) (put files new file.0);
      answer = record { new_bytes = file.0; migrated = file.1; told = refl };
      text = λ e. cc;
    }
some_by (Err fault) bytes new files = some_refusal (refusals.Table fault) files

one_by : (x : Result Contents TableFault) (bytes new : List ℕ) (files : Files) (a b : Answer)
    → IsMigratedBy x bytes new files a → IsMigratedBy x bytes new files b → b ≡ a
one_by (Ok contents) bytes new files a b h k =
    let same : k.new_bytes ≡ h.new_bytes = one_migrated contents bytes h.new_bytes k.new_bytes
    h.migrated k.migrated in
    k.told ∙ ap (λ (l : List ℕ). says Success (migrated_line (size_of contents.rules.groups))
    (put files new l)) same ∙ sym h.told
one_by (Err fault) bytes new files a b h k = k ∙ sym h

pub some_migrated_at : (old new : List ℕ) (files : Files)
    → SomeAnswer (λ a. IsMigratedAt old new files a)
some_migrated_at old new files =
    some_by (opened old_format (files old)) (bytes_at files old) new files

one_at : (old new : List ℕ) (files : Files) → HasOneAnswer (λ a. IsMigratedAt old new files a)
one_at old new files =
    let some = some_migrated_at old new files in (
      some.a,
      some.answer,
      λ b k. one_by (opened old_format (files old)) (bytes_at files old) new
          files some.a b some.answer k,
    )

migrating_lawful : (old new : List ℕ) → IsLawful (migrating_at old new)
migrating_lawful old new =
    record {
      one = λ files input. one_at old new files;
      means = λ files input a are h. migrate_means old
          new files a h;
    }

pub migrate_lawful : (words : List (List ℕ)) → IsLawful (migrate_words words)
migrate_lawful words =
    taking_lawful (λ (names : List ℕ × List ℕ). unless (bytes_eq names.0 names.1)
    (migrating_at names.0 names.1)) (two_words_of words)
    (λ names. unless_lawful (bytes_eq names.0 names.1) (migrating_at names.0 names.1)
    (migrating_lawful names.0 names.1))
