use Rattle.std.proofs.Common.{◌≡◌, filter, take}
use Rattle.frz_index.specs.Kept.{may_lack}
use Rattle.frz_index.proofs.plan.lacking_of.Given as goal

abbrev pub invariant-loop-group : goal.invariant-loop-group
invariant-loop-group l = l.lacking.items ≡ filter may_lack (take l.group-index l.groups)
