use Rattle.std.proofs.Common.{◌≡◌, ◌<◌, ◌^◌}
use Rattle.frz_sets.specs.Sets.{size_of}
use Rattle.frz_sets.proofs.Sizes.{held, times_from}
use Rattle.frz_sets.proofs.size.size.Given as goal

abbrev pub invariant-loop-g : goal.invariant-loop-g
invariant-loop-g l = record {
  same : times_from l.total l.groups l.g-index ≡ held (size_of l.groups);
  fits : l.total < 2 ^ 64;
}
