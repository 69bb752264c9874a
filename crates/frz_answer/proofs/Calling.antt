-- What was done for some words was done for equal ones.
use Rattle.std.proofs.Common.{◌≡◌, subst, Option, Bool}
use Rattle.frz_answer.specs.declared.end.End.{End}
use Rattle.frz_answer.specs.World.{World}
use Rattle.frz_answer.specs.Jobs.{Job}
use Rattle.frz_answer.specs.Ends.{Ran}
use Rattle.frz_answer.specs.Words.{taking, unless}

module _ (end : End) (old new : World) where
  pub as_taken : {A : Type 0} (job : A → Job) (these words : Option A) → these ≡ words
      → Ran (taking job these) end old new → Ran (taking job words) end old new
  as_taken job these words e ran = subst (λ o. Ran (taking job o) end old new) e ran

  pub as_unless : (job : Job) (b c : Bool) → b ≡ c → Ran (unless b job) end old new
      → Ran (unless c job) end old new
  as_unless job b c e ran = subst (λ x. Ran (unless x job) end old new) e ran
