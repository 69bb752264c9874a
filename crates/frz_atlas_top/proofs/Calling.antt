-- What was done for a command was done for an equal one.
use Rattle.std.proofs.Common.{◌≡◌, subst, ℕ, List, Option}
use Rattle.frz_answer.specs.declared.end.End.{End}
use Rattle.frz_answer.specs.World.{World}
use Rattle.frz_answer.specs.Ends.{Ran}
use Rattle.frz_atlas_top.specs.declared.verb.Verb.{Verb}
use Rattle.frz_atlas_top.specs.Commands.{job_by}

pub as_command : (end : End) (old new : World) (these words : Option (Verb × List (List ℕ)))
    → these ≡ words → Ran (job_by these) end old new → Ran (job_by words) end old new
as_command end old new these words e ran =
    subst (λ (o : Option (Verb × List (List ℕ))). Ran (job_by o) end old new) e ran
