use Rattle.std.proofs.Common.{◌≡◌, ◌≤◌, ◌+◌, length, drop}
use Rattle.frz_retro.specs.Beginning.{start_of}
use Rattle.frz_retro.proofs.start.start_of.Given as goal

abbrev pub invariant-arms : goal.invariant-arms
invariant-arms l = record {
  within : l.left ≤ length l.arms;
  value : l.s ≡ start_of l.own l.side (drop l.left l.arms);
  count : l.s.count + l.left ≤ length l.arms;
  least : l.s.least ≤ 2002;
  most : l.s.most ≤ 2002;
}

abbrev pub decreases-arms : goal.decreases-arms
decreases-arms l = l.left
