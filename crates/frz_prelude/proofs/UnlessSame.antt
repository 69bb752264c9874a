-- A job at two names that differ.
use Rattle.std.proofs.Common.{◌≡◌, Bool, true, false}
use Rattle.frz_answer.specs.Jobs.{Job}
use Rattle.frz_answer.specs.Words.{unless}

-- where two names differ the store is called
pub calls_store : (b : Bool) (job : Job) → b ≡ false → job.needs.store ≡ true
    → (unless b job).needs.store ≡ false → ⊥
calls_store true job e asks none = cc
calls_store false job e asks none = cc
