-- What `premises RULES BACK ..` is to do.
use Rattle.std.specs.Prelude.{ℕ, List, [], ◌∷◌, map, true, false}
use Rattle.frz_answer.specs.declared.status.Status.TheVariants as statuses
use Rattle.frz_answer.specs.Jobs.{Job, Once, plain, WithinCosts}
use Rattle.frz_answer.specs.Words.{taking, unless}
use Rattle.frz_atlas_prelude.specs.Names.{file_names_of, has_twice}
use Rattle.frz_commands_premises.specs.Premises.{IsToldAt, premises_costs}
use Rattle.frz_commands_premises.specs.PremisesMean.{MeansPremises}

-- `premises` with names no two of which are the same
abbrev pub premising_at : List ℕ → List (List ℕ) → Job
premising_at rules behind = record (plain
    (statuses.Success ∷ statuses.Rules ∷ statuses.Table ∷ statuses.Wrong ∷ statuses.Missing ∷ [])
    (λ files input a. IsToldAt rules behind files a)) {
      means = λ files input a. MeansPremises rules behind files a;
      needs = record { store = true; reads = Once; input = false; memory = true };
      costs = λ files input a. WithinCosts (premises_costs (files rules) (map files behind));
    }

-- premises RULES BACK ..
abbrev pub premises_words : List (List ℕ) → Job
premises_words words =
    taking (λ names. unless (has_twice words) (premising_at names.0 names.1))
    (file_names_of words)
