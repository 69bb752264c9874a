use Rattle.frz_sets.specs.Sound.{AreStates}
use Rattle.frz_sets.specs.Views.{GroupLine}
use Rattle.frz_index.proofs.RoomForMen.{counted_at}
use Rattle.frz_index.proofs.Soundness.{in_order}
use Rattle.frz_index.proofs.NumbersAfterSteps.{after_step}
use Rattle.frz_index.proofs.laws.numbers_after_steps.Goals as goal

pub returns : goal.returns
returns c r p man a b i k left comes target sound number step valid from to =
    (after_step r.groups p man a b target i k left comes number step valid from
    (counted_at (λ (g : GroupLine). AreStates g.states) r.groups k from.group (in_order r sound)
    from.there) to).1
