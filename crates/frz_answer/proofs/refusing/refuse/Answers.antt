use Rattle.std.proofs.Common.{refl, ap, ℕ, List, arith}
use Rattle.frz_answer.specs.declared.status.Status.TheVariants.{Words}
use Rattle.frz_answer.specs.World.{world}
use Rattle.frz_answer.specs.Answers.{says}
use Rattle.frz_answer.proofs.Worlds.{quiet_same, fine_same}
use Rattle.frz_answer.proofs.Ending.{said, as_given}
use Rattle.frz_answer.proofs.refusing.refuse.Goals as goal

pub returns : goal.returns
returns g c = λ store input steps.
    said _ _ _ _ _ (world _ _ _ _) _ (quiet_same _) (fine_same _) refl c.say.ensures
    (λ files left agrees. record {
      found = as_given _ files left _ agrees;
      answer = ap (λ (l : List ℕ). says Words l files) c.line.ensures;
      costs = record { steps = omega arith; calls = omega arith; asked = omega arith };
    })
