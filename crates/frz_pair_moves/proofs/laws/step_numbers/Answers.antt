use Rattle.frz_pair_moves.proofs.Numbers.{numbered}
use Rattle.frz_pair_moves.proofs.laws.step_numbers.Goals as goal

pub returns : goal.returns
returns x m step = numbered m step
