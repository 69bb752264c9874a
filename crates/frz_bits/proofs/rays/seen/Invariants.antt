use Rattle.std.proofs.Common.{◌<◌, ◌≤◌, ◌-◌, ◌^◌}
use Rattle.frz_bits.proofs.HiddenSquares.{IsSeen}
use Rattle.frz_bits.proofs.rays.seen.Given as goal

abbrev pub invariant-loop-m : goal.invariant-loop-m
invariant-loop-m l = (l.n ≤ 64) × (l.word < 2 ^ 64) × IsSeen l.s l.lines l.occupied l.n l.word

abbrev pub decreases-loop-m : goal.decreases-loop-m
decreases-loop-m l = 64 - l.n
