-- What `chaincheck TABLE BACK` answers: the sizes of two tables that are exact, or the first entry
-- that is wrong. No file changes.
use Rattle.std.specs.Prelude.{◌≡◌, ℕ, List, Option, Some, Ok, Err}
use Rattle.frz_sets.specs.Sets.{size_of}
use Rattle.frz_store.specs.Files.{Files}
use Rattle.frz_table.specs.declared.kind.FileKind.TheVariants.{Plain, Chained}
use Rattle.frz_table.specs.Opening.{Contents, opened, table_format}
use Rattle.frz_check.specs.declared.verdict.Verdict.{Verdict}
use Rattle.frz_check.specs.declared.verdict.Verdict.TheVariants as verdict
use Rattle.frz_check.specs.Kept.{kept_codes}
use Rattle.frz_check.specs.Verdicts.{IsVerdict}
use Rattle.frz_chain.specs.Backs.{HasWrong}
use Rattle.frz_chain.specs.Books.{Back, chain_value}
use Rattle.frz_chain.specs.Chains.{OpensChained, bytes_for_both, calls_for_both, steps_for_both}
use Rattle.frz_answer.specs.declared.status.Status.{Status}
use Rattle.frz_answer.specs.declared.status.Status.TheVariants as statuses
use Rattle.frz_answer.specs.Answers.{Answer, says}
use Rattle.frz_answer.specs.Jobs.{Costs}
use Rattle.frz_prelude.specs.Refusals.{refusal_line, status_of}
use Rattle.frz_prelude.specs.Replies.{exact_on_line}
use Rattle.frz_prelude.specs.WrongLines.{wrong_line}
use Rattle.frz_prelude.specs.declared.refused.Refused.{Refused}
use Rattle.frz_prelude.specs.declared.refused.Refused.TheVariants as refusals
use Rattle.frz_commands_chain.specs.Backs.{IsBackIn}

-- the status and the line that tell a verdict on a table, by its size and that of the back table
abbrev pub chain_status : Verdict → Status
chain_status verdict.Exact = statuses.Success
chain_status (verdict.Wrong wrong) = statuses.Wrong

abbrev pub chain_verdict_line : ℕ → ℕ → Verdict → List ℕ
chain_verdict_line size back verdict.Exact = exact_on_line size back
chain_verdict_line size back (verdict.Wrong wrong) = wrong_line wrong

-- what TABLE holds is refused for this reason; or it opens, and what BACK holds is refused for it
abbrev pub IsRefusedPair : (held back_held : Option (List ℕ)) → Refused → Type 0
IsRefusedPair held back_held (refusals.Table fault) = opened (table_format Chained) held ≡ Err fault
IsRefusedPair held back_held (refusals.Back fault) =
    OpensChained held × (opened (table_format Plain) back_held ≡ Err fault)
IsRefusedPair held back_held (refusals.BackWrong wrong) =
    OpensChained held × HasWrong back_held wrong
IsRefusedPair held back_held why = ⊥

-- TABLE opens, BACK holds a back table that is exact, and this is the verdict on the codes of TABLE
-- over BACK
pub record IsJudgedPair (held back_held : Option (List ℕ)) (judgement : Verdict) : Type 0 where
  pub bytes : List ℕ
  pub there : held ≡ Some bytes
  pub contents : Contents
  pub opens : opened (table_format Chained) (Some bytes) ≡ Ok contents
  pub behind : Back
  pub back_there : IsBackIn back_held behind
  pub judged : IsVerdict contents.rules (chain_value contents.rules behind)
      (kept_codes contents bytes) judgement

-- the answer refuses what one of the names holds, or tells the verdict
pub data IsCheckedPair (table back : List ℕ) (files : Files) (a : Answer) : Type 0 where
  refused : (why : Refused) → IsRefusedPair (files table) (files back) why
      → a ≡ says (status_of why) (refusal_line why) files
      → IsCheckedPair table back files a
  judged : (v : Verdict) → (h : IsJudgedPair (files table) (files back) v)
      → a ≡ says (chain_status v)
      (chain_verdict_line (size_of h.contents.rules.groups) (size_of h.behind.groups) v) files
      → IsCheckedPair table back files a

-- the costs of `chaincheck`: no more than checking the table over the back table; what a refusal
-- makes needless is not spent
abbrev pub pair_costs : (held back_held : Option (List ℕ)) → Costs
pair_costs held back_held = record {
  steps = Some (steps_for_both held back_held);
  calls = Some (calls_for_both held back_held);
  asked = Some (bytes_for_both held back_held);
}
