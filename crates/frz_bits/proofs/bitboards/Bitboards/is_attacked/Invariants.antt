use Rattle.std.proofs.Common.{◌≡◌, ℕ, ◌<◌, ◌≤◌, ◌-◌, false}
use Rattle.frz_bits.proofs.Gather.{hits}
use Rattle.frz_bits.proofs.bitboards.Bitboards.is_attacked.Given as goal

abbrev pub invariant-loop-a : goal.invariant-loop-a
invariant-loop-a l = (l.n ≤ 64) × ((k : ℕ) → k < l.n → hits l.self l.s l.fn.by k ≡ false)

abbrev pub decreases-loop-a : goal.decreases-loop-a
decreases-loop-a l = 64 - l.n
