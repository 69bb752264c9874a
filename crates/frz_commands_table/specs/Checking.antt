-- What `check TABLE` answers: the size of a table that is exact, or its first entry that is wrong.
-- No file changes.
use Rattle.std.specs.Prelude.{◌≡◌, ℕ, ◌+◌, ◌*◌, List, length, Option, Some, Result, Ok, Err}
use Rattle.frz_exits.specs.Books.{value_by}
use Rattle.frz_sets.specs.Sets.{size_of}
use Rattle.frz_store.specs.Files.{Files, bytes_at}
use Rattle.frz_table.specs.declared.fault.TableFault.{TableFault}
use Rattle.frz_table.specs.declared.kind.FileKind.TheVariants.{Plain}
use Rattle.frz_table.specs.Layout.{pieces_of}
use Rattle.frz_table.specs.Opening.{Contents, opened, opening_calls, table_format}
use Rattle.frz_table.specs.Possible.{held_text}
use Rattle.frz_check.specs.declared.verdict.Verdict.{Verdict}
use Rattle.frz_check.specs.declared.verdict.Verdict.TheVariants as verdict
use Rattle.frz_check.specs.Kept.{kept_codes, opened_size}
use Rattle.frz_check.specs.Verdicts.{IsVerdict}
use Rattle.frz_answer.specs.declared.status.Status.{Status}
use Rattle.frz_answer.specs.declared.status.Status.TheVariants as statuses
use Rattle.frz_answer.specs.Answers.{Answer, says}
use Rattle.frz_answer.specs.Jobs.{Costs}
use Rattle.frz_prelude.specs.Refusals.{table_status}
use Rattle.frz_prelude.specs.Replies.{exact_line}
use Rattle.frz_prelude.specs.TableCauses.{table_line}
use Rattle.frz_prelude.specs.WrongLines.{wrong_line}

-- the status and the line that tell a verdict on a table with this many numbers
abbrev pub verdict_status : Verdict → Status
verdict_status verdict.Exact = statuses.Success
verdict_status (verdict.Wrong wrong) = statuses.Wrong

abbrev pub verdict_line : ℕ → Verdict → List ℕ
verdict_line size verdict.Exact = exact_line size
verdict_line size (verdict.Wrong wrong) = wrong_line wrong

-- the answer for a file that opens: the verdict on its codes
pub record IsJudged (contents : Contents) (bytes : List ℕ) (files : Files)
    (a : Answer) : Type 0 where
  pub verdict : Verdict
  pub judged : IsVerdict contents.rules (value_by contents.rules) (kept_codes contents bytes)
      verdict
  pub told : a ≡ says (verdict_status verdict)
      (verdict_line (size_of contents.rules.groups) verdict) files

-- the answer, by how the file opens
abbrev pub IsCheckedBy : Result Contents TableFault → List ℕ → Files → Answer → Type 0
IsCheckedBy (Ok contents) bytes files a = IsJudged contents bytes files a
IsCheckedBy (Err fault) bytes files a = a ≡ says (table_status fault) (table_line fault) files

-- the answer for the file that has the name
abbrev pub IsCheckedAt : List ℕ → Files → Answer → Type 0
IsCheckedAt table files a =
    IsCheckedBy (opened (table_format Plain) (files table)) (bytes_at files table) files a

-- the costs of `check`: at most one step a number; the calls of the store that open the file, and
-- two for each piece of a side's codes; and no more bytes asked for than the file has
abbrev pub checking_costs : Option (List ℕ) → Costs
checking_costs held =
    let size = opened_size (opened (table_format Plain) held) in
    record {
      steps = Some size;
      calls = Some (opening_calls (table_format Plain) held + 2 * pieces_of size);
      asked = Some (16 + length (held_text held) + 8 * size);
    }
