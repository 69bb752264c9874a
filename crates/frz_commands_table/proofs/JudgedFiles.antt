-- The verdict on an open table is one on the file of its name.
use Rattle.std.proofs.Common.{◌≡◌, subst, ℕ, ◌+◌, ◌*◌, ◌≤◌, List, length, Ok}
use Rattle.frz_sets.specs.Views.{RuleLines}
use Rattle.frz_exits.specs.Books.{value_by}
use Rattle.frz_rules.specs.Text.{rules_of}
use Rattle.frz_store.specs.Told.{StoreTold}
use Rattle.frz_table.specs.declared.kind.FileKind.{FileKind}
use Rattle.frz_table.specs.declared.kind.FileKind.TheVariants.{Plain}
use Rattle.frz_table.specs.Layout.{pieces_of}
use Rattle.frz_table.specs.Opening.{Contents, contents_of}
use Rattle.frz_table.specs.Tables.{Table, table_size}
use Rattle.frz_check.specs.Kept.{ChecksTable, IsVerdictOn}
use Rattle.frz_check.proofs.Lemmas.{file_opens, within_file}
use Rattle.frz_commands_table.specs.declared.judging.Judged.{Judged}
use Rattle.frz_commands_table.specs.Judging.{JudgesFile}

pub judged_file : (table : Table) (rules : RuleLines) (name : List ℕ) (old mid new : StoreTold)
    (steps_before steps_now : ℕ) (judged : Judged)
    → mid.files ≡ old.files → table.kind ≡ Plain → table.name ≡ name → rules ≡ table.rules
    → rules_of table.text ≡ Ok table.rules
    → mid.asked ≤ old.asked + (16 + length table.text) → mid.calls ≤ old.calls + 5
    → new.asked ≤ mid.asked + 8 * table_size table
    → new.calls ≤ mid.calls + 2 * pieces_of (table_size table)
    → steps_now ≤ steps_before + table_size table → judged.size ≡ table_size table
    → ChecksTable mid.files table (value_by rules) judged.verdict
    → JudgesFile name old new steps_before steps_now judged
judged_file table rules name old mid new steps_before steps_now judged same kind named same_rules
    read asked calls more_asked more_calls steps size h =
    let contents : Contents = contents_of table in
    let there = file_opens Plain table name h.bytes old.files mid.files same kind named read h.may
    h.file in
    record {
      file = record {
        bytes = h.bytes;
        may = there.0;
        contents = contents;
        opens = there.1;
        told =
            subst (λ (k : FileKind). IsVerdictOn k (value_by table.rules) contents h.bytes
            judged.verdict) kind
            (subst (λ (r : RuleLines). IsVerdictOn table.kind (value_by r) contents h.bytes
            judged.verdict) same_rules h.told);
        within = within_file h.bytes contents old mid new steps_before steps_now there.1 asked calls
            more_asked more_calls steps;
      };
      size = size;
    }
