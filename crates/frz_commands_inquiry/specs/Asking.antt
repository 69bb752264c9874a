-- What `ask TABLE BACK ..` is to do.
use Rattle.std.specs.Prelude.{ℕ, List, [], ◌∷◌, map, true, Option, Some}
use Rattle.frz_answer.specs.declared.status.Status.TheVariants.{Success, Table, Missing, Limit}
use Rattle.frz_answer.specs.Jobs.{Costs, Job, Once, plain, WithinCosts}
use Rattle.frz_answer.specs.Words.{taking, unless}
use Rattle.frz_atlas_prelude.specs.Costs.{loading_bytes, loading_calls}
use Rattle.frz_atlas_prelude.specs.Names.{Names, file_names_of, has_twice}
use Rattle.frz_commands_inquiry.specs.AskOf.{IsAskedAt}
use Rattle.frz_commands_inquiry.specs.Meaning.{MeansAsk}
pub use Rattle.frz_commands_why.specs.Asking.{why_words}

-- what opening and loading TABLE and the BACKs costs; no line of the input costs more
abbrev pub ask_costs : Option (List ℕ) → List (Option (List ℕ)) → Costs
ask_costs held behind = record {
  steps = Some 0;
  calls = Some (loading_calls held behind);
  asked = Some (loading_bytes held behind);
}

-- `ask` with these names, no two of which are the same; each line is answered before the next is
-- read
abbrev pub asking_at : List ℕ → List (List ℕ) → Job
asking_at table behind = record (plain (Success ∷ Table ∷ Missing ∷ Limit ∷ [])
    (λ files input a. IsAskedAt table behind input files a)) {
      means = λ files input a. MeansAsk table behind files input a;
      needs = record { store = true; reads = Once; input = true; memory = true };
      speaks = true;
      costs = λ files input a. WithinCosts (ask_costs (files table) (map files behind));
    }

abbrev pub asking_named : Names → Job
asking_named names = asking_at names.0 names.1

-- ask TABLE BACK ..
abbrev pub ask_words : List (List ℕ) → Job
ask_words words =
    taking (λ names. unless (has_twice words) (asking_named names)) (file_names_of words)
