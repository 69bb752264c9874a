use Rattle.std.proofs.Common.{◌≡◌, length}
use Rattle.frz_sets.proofs.Sizes.{choices_to}
use Rattle.frz_sets.proofs.size.radix.Given as goal

abbrev pub invariant-loop-men : goal.invariant-loop-men
invariant-loop-men l = l.total ≡ choices_to (length l.g.states) l.g.least l.men
