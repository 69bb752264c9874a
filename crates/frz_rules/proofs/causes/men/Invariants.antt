use Rattle.std.proofs.Common.{◌≡◌, ◌+◌, ◌*◌, ◌≤◌, drop}
use Rattle.frz_sets.specs.Groups.{most_men_of}
use Rattle.frz_rules.proofs.causes.men.Given as goal

abbrev pub invariant-loop-g : goal.invariant-loop-g
invariant-loop-g l = record {
  same : l.total + most_men_of (drop l.g-index l.groups) l.c ≡ most_men_of l.groups l.c;
  small : l.total ≤ 255 * l.g-index;
}
