-- What a command answers over a table and those behind it, each opened as its own kind, and none
-- checked.
use Rattle.std.specs.Prelude.{◌≡◌, ℕ, List, map, Result, Ok, Err}
use Rattle.frz_store.specs.Files.{Files, bytes_at}
use Rattle.frz_table.specs.declared.fault.TableFault.{TableFault}
use Rattle.frz_table.specs.Opening.{Contents}
use Rattle.frz_atlas.specs.Behind.{TableBytes}
use Rattle.frz_atlas.specs.Loading.{opened_all, opened_own}
use Rattle.frz_atlas.specs.declared.fault.BackFault.TheVariants.{Refused}
use Rattle.frz_answer.specs.Answers.{Answer, says}
use Rattle.frz_prelude.specs.Refusals.{table_status}
use Rattle.frz_prelude.specs.TableCauses.{table_line}
use Rattle.frz_atlas_prelude.specs.BackLines.{back_line}

-- whether this is an answer where TABLE has these contents, in these bytes, over these tables
abbrev pub Over : Type 1
Over = Contents → (bytes : List ℕ) → List TableBytes → Answer → Type 0

-- the answer by how the BACKs open: the first that is refused is named
abbrev pub IsOverBacks : (List TableBytes → Answer → Type 0) →
    Result (List TableBytes) (ℕ × TableFault) → Files → Answer → Type 0
IsOverBacks over (Ok tables) files a = over tables a
IsOverBacks over (Err refused) files a =
    a ≡ says (table_status refused.1) (back_line refused.0 (Refused refused.1)) files

-- the answer by how TABLE opens, which is refused before a BACK is
abbrev pub IsOverTable : Over → Result Contents TableFault → (bytes : List ℕ) →
    Result (List TableBytes) (ℕ × TableFault) → Files → Answer → Type 0
IsOverTable over (Ok contents) bytes behind files a =
    IsOverBacks (over contents bytes) behind files a
IsOverTable over (Err fault) bytes behind files a =
    a ≡ says (table_status fault) (table_line fault) files

-- the answer on the file that has the name and those that have the names behind it
abbrev pub IsAnswerOver : Over → List ℕ → List (List ℕ) → Files → Answer → Type 0
IsAnswerOver over table behind files a =
    IsOverTable over (opened_own (files table)) (bytes_at files table)
    (opened_all (map files behind)) files a
