-- What `chain RULES BACK TABLE` is to do: the table file of the rules over the back table is
-- written under the name TABLE.
use Rattle.std.specs.Prelude.{◌≡◌, ℕ, ◌+◌, ◌*◌, List, [], ◌∷◌, true, false, Bool, ◌||◌, Option, Some, Result, Ok, Err}
use Rattle.std.specs.Str.{bytes_eq}
use Rattle.frz_store.specs.Files.{Files, put}
use Rattle.frz_answer.specs.declared.status.Status.{Status}
use Rattle.frz_answer.specs.declared.status.Status.TheVariants as statuses
use Rattle.frz_answer.specs.Answers.{Answer, says}
use Rattle.frz_answer.specs.Jobs.{Costs, Job, Once, plain, nothing, WithinCosts}
use Rattle.frz_answer.specs.Words.{taking, three_words_of, unless}
use Rattle.frz_prelude.specs.Refusals.{refusal_line, status_of}
use Rattle.frz_prelude.specs.Replies.{chained_line}
use Rattle.frz_prelude.specs.RulesFiles.{rules_held, size_by}
use Rattle.frz_prelude.specs.declared.refused.Refused.{Refused}
use Rattle.frz_sets.specs.Views.{RuleLines}
use Rattle.frz_sets.specs.Sets.{size_of}
use Rattle.frz_rules.specs.Text.{rules_of}
use Rattle.frz_chain.specs.Building.{writing_calls}
use Rattle.frz_chain.specs.Books.{Back}
use Rattle.frz_chain.specs.ExactBacks.{if_exact}
use Rattle.frz_chain.specs.FileOn.{IsFileOn}
use Rattle.frz_commands_chain.specs.Backs.{IsBackIn}
use Rattle.frz_commands_chain.specs.Reading.{IsRefusedBoth, reading_bytes, reading_calls, reading_steps}

-- the answer by what was read: TABLE holds the one file of the text over the back table, and every
-- other name holds what it held
abbrev pub IsChainedBy : List ℕ → RuleLines → Back → List ℕ → Files → Answer → Type 0
IsChainedBy text r back table files a =
    (bytes : List ℕ) × IsFileOn text r back bytes
    × (a ≡ says statuses.Success (chained_line (size_of r.groups)) (put files table bytes))

-- RULES holds a text that is accepted, and BACK a back table that is exact. Afterwards TABLE holds
-- the one file of the text over that back table
pub record MakesChain (rules back table : List ℕ) (files : Files) (a : Answer) : Type 0 where
  pub text : List ℕ
  pub there : files rules ≡ Some text
  pub lines : RuleLines
  pub accepted : rules_of text ≡ Ok lines
  pub behind : Back
  pub back_there : IsBackIn (files back) behind
  pub made : IsChainedBy text lines behind table files a

-- the file named RULES or the file named BACK is refused, RULES first, or the table is made
pub data IsChainedAt (rules back table : List ℕ) (files : Files) (a : Answer) : Type 0 where
  refused : (why : Refused) → IsRefusedBoth (files rules) (files back) why
      → a ≡ says (status_of why) (refusal_line why) files
      → IsChainedAt rules back table files a
  made : MakesChain rules back table files a → IsChainedAt rules back table files a

-- what an answer says, by its status; a refusal changes no file
abbrev pub MeansByStatus : List ℕ → List ℕ → List ℕ → Files → Answer → Status → Type 0
MeansByStatus rules back table files a statuses.Success = MakesChain rules back table files a
MeansByStatus rules back table files a status =
    (why : Refused) × IsRefusedBoth (files rules) (files back) why
    × (a ≡ says (status_of why) (refusal_line why) files)

-- what an answer of `chain` means: it takes no input, and each status has its cause
pub record MeansChain (rules back table : List ℕ) (files : Files) (a : Answer) : Type 0 where
  pub untaken : a.taken ≡ 0
  pub says : MeansByStatus rules back table files a a.status

-- `chain` by what was read: at most four steps a number, and the calls that write the file
abbrev pub chaining_by : List ℕ → RuleLines → Back → List ℕ → Job
chaining_by text r back table = record (plain (statuses.Success ∷ [])
    (λ files input a. IsChainedBy text r back table files a)) {
      needs = record nothing { store = true; memory = true };
      writes = Some table;
      costs = λ files input a. WithinCosts (record {
        steps = Some (4 * size_of r.groups);
        calls = Some (writing_calls (size_of r.groups));
        asked = Some 0;
      });
    }

-- the calls that write the table of the rules, and their size; 0 where the rules are refused
abbrev pub writing_by : Result RuleLines Refused → ℕ
writing_by (Ok r) = writing_calls (size_of r.groups)
writing_by (Err why) = 0

-- the costs of `chain`: what reading the rules file and checking the back table costs. Where both
-- are accepted, add four steps a number and the calls that write the table
abbrev pub chain_costs : (held back_held : Option (List ℕ)) → Costs
chain_costs held back_held = record {
  steps = Some (reading_steps held back_held + if_exact back_held (4 * size_by (rules_held held)));
  calls = Some (reading_calls held back_held + if_exact back_held (writing_by (rules_held held)));
  asked = Some (reading_bytes held back_held);
}

-- `chain` where TABLE is neither of the other names
abbrev pub chaining_at : List ℕ → List ℕ → List ℕ → Job
chaining_at rules back table = record (plain
    (statuses.Success ∷ statuses.Rules ∷ statuses.Table ∷ statuses.Wrong ∷ statuses.Missing ∷ [])
    (λ files input a. IsChainedAt rules back table files a)) {
      means = λ files input a. MeansChain rules back table files a;
      needs = record { store = true; reads = Once; input = false; memory = true };
      writes = Some table;
      costs = λ files input a. WithinCosts (chain_costs (files rules) (files back));
    }

-- TABLE is one of the other two names
abbrev pub is_named_twice : List ℕ → List ℕ → List ℕ → Bool
is_named_twice rules back table = bytes_eq table rules || bytes_eq table back

-- chain RULES BACK TABLE
abbrev pub chain_words : List (List ℕ) → Job
chain_words words =
    taking (λ names. unless (is_named_twice names.0 names.1 names.2)
    (chaining_at names.0 names.1 names.2))
    (three_words_of words)
