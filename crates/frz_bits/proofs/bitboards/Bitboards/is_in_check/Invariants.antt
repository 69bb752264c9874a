use Rattle.std.proofs.Common.{◌≡◌, ℕ, ◌<◌, ◌≤◌, ◌-◌, false}
use Rattle.frz_bits.proofs.Gather.{checks}
use Rattle.frz_bits.proofs.bitboards.Bitboards.is_in_check.Given as goal

abbrev pub invariant-loop-s : goal.invariant-loop-s
invariant-loop-s l = (l.n ≤ 64) × ((k : ℕ) → k < l.n → checks l.self l.c k ≡ false)

abbrev pub decreases-loop-s : goal.decreases-loop-s
decreases-loop-s l = 64 - l.n
