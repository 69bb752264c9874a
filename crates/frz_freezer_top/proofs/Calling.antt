-- What was done for a command was done for an equal one.
use Rattle.std.proofs.Common.{◌≡◌, subst, ℕ, List, Option}
use Rattle.frz_store.specs.Files.{Files}
use Rattle.frz_answer.specs.declared.end.End.{End}
use Rattle.frz_answer.specs.World.{World}
use Rattle.frz_answer.specs.Ends.{Ran}
use Rattle.frz_commands_line.specs.Later.{MayBeLater}
use Rattle.frz_commands_line.proofs.Lemmas.{any_later}
use Rattle.frz_freezer_top.specs.declared.verb.Verb.{Verb}
use Rattle.frz_freezer_top.specs.Commands.{job_by}

module _ (end : End) (old new : World) {these words : Option (Verb × List (List ℕ))}
    (same : these ≡ words) where
  pub as_command : (later : ℕ → Files) → Ran (job_by later these) end old new
      → Ran (job_by later words) end old new
  as_command later ran =
      subst (λ (o : Option (Verb × List (List ℕ))). Ran (job_by later o) end old new) same ran

  -- whatever the store holds later
  pub with_any_later : (told : Option Files)
      → ((later : ℕ → Files) → Ran (job_by later these) end old new)
      → (later : ℕ → Files) × MayBeLater told later × Ran (job_by later words) end old new
  with_any_later told ran =
      let any = any_later told in (any.0, any.1, as_command any.0 (ran any.0))
