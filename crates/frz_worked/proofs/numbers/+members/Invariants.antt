use Rattle.std.proofs.Common.{◌-◌}
use Rattle.frz_worked.proofs.numbers.+members.Given as goal

abbrev pub decreases-members : goal.decreases-members
decreases-members l = 64 - l.square
