use Rattle.std.proofs.Common.{◌≡◌}
use Rattle.frz_rules.proofs.Placing.{states_below}
use Rattle.frz_rules.proofs.states.states.Given as goal

abbrev pub invariant-loop-n : goal.invariant-loop-n
invariant-loop-n l = l.found.items ≡ states_below l.places l.n
