-- What `migrate OLD NEW` answers: the table of OLD is rewritten under the name NEW.
use Rattle.std.specs.Prelude.{◌≡◌, ℕ, ◌+◌, ◌*◌, List, [], ◌∷◌, length, true, Some, Option, Result, Ok, Err}
use Rattle.frz_store.specs.Files.{Files, bytes_at, put}
use Rattle.frz_index.specs.OldNumbers.{old_size_of}
use Rattle.frz_sets.specs.Sets.{size_of}
use Rattle.frz_table.specs.declared.fault.TableFault.{TableFault}
use Rattle.frz_table.specs.declared.kind.FileKind.TheVariants.{Plain}
use Rattle.frz_table.specs.Layout.{file_of, magic_of, pieces_of}
use Rattle.frz_former.specs.OldFiles.{old_format}
use Rattle.frz_table.specs.Opening.{Contents, opened, opening_calls}
use Rattle.frz_table.specs.Possible.{held_text}
use Rattle.frz_build.specs.Building.{writing_calls}
use Rattle.frz_answer.specs.declared.status.Status.TheVariants.{Success}
use Rattle.frz_answer.specs.Answers.{Answer, says}
use Rattle.frz_answer.specs.Jobs.{Costs, Job, nothing, plain, WithinCosts}
use Rattle.frz_prelude.specs.Refusals.{table_status}
use Rattle.frz_prelude.specs.Replies.{migrated_line}
use Rattle.frz_prelude.specs.TableCauses.{table_line}
use Rattle.frz_commands_table.specs.Migrated.{IsMigrated}
use Rattle.frz_commands_table.specs.Rewriting.{former_size}

-- the answer for a file that opens: NEW holds it rewritten, and every other name what it held
pub record IsRewritten (contents : Contents) (bytes new : List ℕ) (files : Files)
    (a : Answer) : Type 0 where
  pub new_bytes : List ℕ
  pub migrated : IsMigrated contents bytes new_bytes
  pub told : a ≡ says Success (migrated_line (size_of contents.rules.groups))
      (put files new new_bytes)

-- the answer, by how the file opens
abbrev pub IsMigratedBy : Result Contents TableFault → List ℕ → List ℕ → Files → Answer → Type 0
IsMigratedBy (Ok contents) bytes new files a = IsRewritten contents bytes new files a
IsMigratedBy (Err fault) bytes new files a = a ≡ says (table_status fault) (table_line fault) files

-- the answer for the file that has the name OLD
abbrev pub IsMigratedAt : (old new : List ℕ) → Files → Answer → Type 0
IsMigratedAt old new files a =
    IsMigratedBy (opened old_format (files old)) (bytes_at files old) new files a

-- the job to write a table of this text and size with these codes under the name, and tell its size
abbrev pub writing_new : (text : List ℕ) (size : ℕ) (white black name : List ℕ) → Job
writing_new text size white black name =
    record (plain (Success ∷ []) (λ files input a.
    a ≡ says Success (migrated_line size)
    (put files name (file_of (magic_of Plain) text size white black)))) {
      needs = record nothing { store = true; memory = true };
      writes = Some name;
      costs = λ files input a. WithinCosts (record {
        steps = Some 0;
        calls = Some (writing_calls size);
        asked = Some 0;
      });
    }

-- the calls after opening: each side's codes are read in pieces, and the new file is written
abbrev pub moving_calls : Result Contents TableFault → ℕ
moving_calls (Ok contents) =
    2 * pieces_of (old_size_of contents.rules.groups) + writing_calls
    (size_of contents.rules.groups)
moving_calls (Err fault) = 0

-- the costs of `migrate`: no step, these calls of the store, and no more bytes asked for than the
-- file has
abbrev pub migrating_costs : Option (List ℕ) → Costs
migrating_costs held = record {
  steps = Some 0;
  calls = Some (opening_calls old_format held + moving_calls (opened old_format held));
  asked = Some (16 + length (held_text held) + 8 * former_size (opened old_format held));
}
