use Rattle.std.proofs.Common.{refl, arith}
use Rattle.frz_answer.specs.World.{world}
use Rattle.frz_answer.proofs.Lemmas.{quiet_steps, fine_steps}
use Rattle.frz_answer.proofs.Lemmas.{said, as_given}
use Rattle.frz_commands_chess.proofs.listing.list_at.Goals as goal

pub returns : goal.returns
returns g c = λ store input.
    said _ _ _ _ _ (world _ _ _ _) _ (quiet_steps _ _ _ _ _ c.write_moves.ensures.later)
    (fine_steps _ _ _ _ _) refl (c.said.ensures _ _ _ c.write_moves.ensures.wrote)
    (λ files left agrees. record {
      found = as_given _ files left _ agrees;
      answer = refl;
      costs = record {
        steps = c.write_moves.ensures.few;
        calls = omega arith;
        asked = omega arith;
      };
    })
