-- What `check TABLE BACK ..` answers: the sizes of tables that are exact over each other, or the
-- first entry that is wrong. No file changes.
use Rattle.std.specs.Prelude.{◌≡◌, ℕ, ◌+◌, List, [], ◌∷◌, ◌++◌, map, sum_by, Option, Some, Ok, codes, decimal}
use Rattle.frz_sets.specs.Sets.{size_of}
use Rattle.frz_store.specs.Files.{Files}
use Rattle.frz_table.specs.Opening.{Contents, opened, own_format}
use Rattle.frz_check.specs.declared.verdict.Verdict.{Verdict}
use Rattle.frz_check.specs.declared.verdict.Verdict.TheVariants as verdict
use Rattle.frz_check.specs.Kept.{kept_codes}
use Rattle.frz_check.specs.Verdicts.{IsVerdict}
use Rattle.frz_atlas.specs.Links.{value_over}
use Rattle.frz_atlas.specs.Behind.{TableBytes, backs_in, leans}
use Rattle.frz_atlas.specs.Checking.{sizes_in}
use Rattle.frz_atlas.specs.Costs.{size_held, steps_of}
use Rattle.frz_answer.specs.declared.status.Status.{Status}
use Rattle.frz_answer.specs.declared.status.Status.TheVariants as statuses
use Rattle.frz_answer.specs.Answers.{Answer, says}
use Rattle.frz_answer.specs.Jobs.{Costs}
use Rattle.frz_prelude.specs.WrongLines.{wrong_line}
use Rattle.frz_atlas_prelude.specs.Costs.{loading_bytes, loading_calls}
use Rattle.frz_atlas_prelude.specs.TableRefusals.{RefusesBehind, RefusesTable}
use Rattle.frz_atlas_prelude.specs.Tables.{AreTablesIn}

-- the sizes one after another, and the end of the line
abbrev pub sizes_text : List ℕ → List ℕ
sizes_text [] = codes "\n"
sizes_text (size ∷ sizes) = (codes " " ++ decimal size) ++ sizes_text sizes

-- over how many numbers of the tables behind, if there are any, and the end of the line
abbrev pub over_text : List ℕ → List ℕ
over_text [] = codes "\n"
over_text (size ∷ sizes) = codes " over" ++ sizes_text (size ∷ sizes)

-- the line for a table of `size` numbers that is exact over tables of `sizes` numbers
abbrev pub exact_over_line : ℕ → List ℕ → List ℕ
exact_over_line size sizes = (codes "exact " ++ decimal size) ++ over_text sizes

-- the status and the line that tell the verdict on a table of `size` numbers over tables of `sizes`
-- numbers
abbrev pub verdict_status : Verdict → Status
verdict_status verdict.Exact = statuses.Success
verdict_status (verdict.Wrong wrong) = statuses.Wrong

abbrev pub verdict_line : ℕ → List ℕ → Verdict → List ℕ
verdict_line size sizes verdict.Exact = exact_over_line size sizes
verdict_line size sizes (verdict.Wrong wrong) = wrong_line wrong

-- TABLE opens, the BACKs hold tables that are exact, each over those before it, and this is the
-- verdict on the codes of TABLE, over all of them where it leans on them
pub record IsJudgedAtlas (held : Option (List ℕ)) (behind : List (Option (List ℕ)))
    (judgement : Verdict) : Type 0 where
  pub bytes : List ℕ
  pub there : held ≡ Some bytes
  pub contents : Contents
  pub opens : opened own_format (Some bytes) ≡ Ok contents
  pub tables : List TableBytes
  pub behind_it : AreTablesIn behind tables
  pub judged : IsVerdict contents.rules (value_over (leans bytes) contents.rules (backs_in tables))
      (kept_codes contents bytes) judgement

-- TABLE or one of the BACKs is refused, the first in this order, or the verdict is told
pub data IsCheckedAt (table : List ℕ) (behind : List (List ℕ)) (files : Files)
    (a : Answer) : Type 0 where
  no_table : RefusesTable table files a → IsCheckedAt table behind files a
  no_back : RefusesBehind table behind files a → IsCheckedAt table behind files a
  judged : (v : Verdict) → (h : IsJudgedAtlas (files table) (map files behind) v)
      → a ≡ says (verdict_status v)
      (verdict_line (size_of h.contents.rules.groups) (sizes_in h.tables) v) files
      → IsCheckedAt table behind files a

-- the costs of `check`: no more than checking the table and each of those behind it; what a refusal
-- makes needless is not spent
abbrev pub check_costs : Option (List ℕ) → List (Option (List ℕ)) → Costs
check_costs held behind = record {
  steps = Some (size_held held + sum_by steps_of behind);
  calls = Some (loading_calls held behind);
  asked = Some (loading_bytes held behind);
}
