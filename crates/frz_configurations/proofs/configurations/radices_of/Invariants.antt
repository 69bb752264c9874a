use Rattle.std.proofs.Common.{◌≡◌, map, take}
use Rattle.frz_sets.specs.Sets.{radix_of}
use Rattle.frz_configurations.proofs.configurations.radices_of.Given as goal

abbrev pub invariant-loop-group : goal.invariant-loop-group
invariant-loop-group l = l.radices.items ≡ map radix_of (take l.group-index l.groups)
