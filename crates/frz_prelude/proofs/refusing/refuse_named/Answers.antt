use Rattle.std.proofs.Common.{refl, arith}
use Rattle.frz_answer.specs.World.{world}
use Rattle.frz_answer.proofs.Lemmas.{quiet_same, fine_same}
use Rattle.frz_answer.proofs.Lemmas.{said, as_given}
use Rattle.frz_prelude.proofs.Stopping.{own_status}
use Rattle.frz_prelude.proofs.refusing.refuse_named.Goals as goal

pub returns : goal.returns
returns g c = λ store input steps.
    said _ _ _ _ _ (world _ _ _ _) _ (quiet_same _) (fine_same _) (own_status c.args.why)
    c.end.ensures
    (λ files left agrees. record {
      found = as_given _ files left _ agrees;
      answer = refl;
      costs = record { steps = omega arith; calls = omega arith; asked = omega arith };
    })
