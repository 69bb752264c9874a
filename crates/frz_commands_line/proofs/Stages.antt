-- A job that is a stage of another, from which it differs in its answers alone.
use Rattle.std.proofs.Common.{◌≡◌, refl, ℕ, List, true}
use Rattle.frz_store.specs.Files.{Files}
use Rattle.frz_answer.specs.declared.status.Status.{Status}
use Rattle.frz_answer.specs.Statuses.{subset}
use Rattle.frz_answer.specs.World.{Spent}
use Rattle.frz_answer.specs.Answers.{Answer}
use Rattle.frz_answer.specs.Jobs.{Job, Never, Once, Reads}
use Rattle.frz_answer.proofs.Lemmas.{IsStage}

-- a stage with other answers, meanings and costs, and no statuses but those of the job
pub is_part : (job : Job) (statuses : List Status)
    {answers means : Files → List ℕ → Answer → Type 0}
    {costs : Files → List ℕ → Answer → Spent → Spent → Type 0}
    → subset statuses job.statuses ≡ true
    → IsStage
    (record job { answers = answers; means = means; statuses = statuses; costs = costs }) job
is_part job statuses all = record {
  statuses = all;
  store = λ h. h;
  reads = λ h. h;
  input = λ h. h;
  memory = λ h. h;
  speaks = λ h. h;
  writes = refl;
}

-- such a stage whose need of reading the store is `Never`
pub is_later_part : (job : Job) (statuses : List Status)
    {answers means : Files → List ℕ → Answer → Type 0}
    {costs : Files → List ℕ → Answer → Spent → Spent → Type 0}
    → subset statuses job.statuses ≡ true
    → IsStage
    (record job {
      answers = answers;
      means = means;
      statuses = statuses;
      costs = costs;
      needs = record job.needs { reads = Never };
    }) job
is_later_part job statuses all = record {
  statuses = all;
  store = λ h. h;
  reads = λ h. refl;
  input = λ h. h;
  memory = λ h. h;
  speaks = λ h. h;
  writes = refl;
}

-- what is read is looked at
pub once_is_not : {A : Type 0} → ◌≡◌ {A = Reads} Once Never → A
once_is_not e = cc
