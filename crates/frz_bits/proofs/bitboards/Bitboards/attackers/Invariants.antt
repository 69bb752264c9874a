use Rattle.std.proofs.Common.{◌≡◌, ◌≤◌, ◌-◌}
use Rattle.frz_squares.specs.SquareSets.{bits_below}
use Rattle.frz_bits.proofs.Gather.{hits}
use Rattle.frz_bits.proofs.bitboards.Bitboards.attackers.Given as goal

abbrev pub invariant-loop-a : goal.invariant-loop-a
invariant-loop-a l = (l.n ≤ 64) × (l.word ≡ bits_below (hits l.self l.s l.fn.by) l.n)

abbrev pub decreases-loop-a : goal.decreases-loop-a
decreases-loop-a l = 64 - l.n
