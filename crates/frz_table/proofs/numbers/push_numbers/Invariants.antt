use Rattle.std.proofs.Common.{◌≡◌, ◌+◌, ◌*◌, ◌≤◌, length, vec_len, vec_capacity}
use Rattle.frz_table.proofs.Pushing.{IsPushed}
use Rattle.frz_table.proofs.numbers.push_numbers.Given as goal

abbrev pub invariant-loop-number : goal.invariant-loop-number
invariant-loop-number l = IsPushed l.initial.to.items l.to.items l.fn.bytes l.rest
    × (4 * vec_len l.to + length l.rest ≡ 4 * vec_len l.initial.to + length l.fn.bytes)
    × (vec_capacity l.initial.to ≤ vec_capacity l.to)

abbrev pub decreases-loop-number : goal.decreases-loop-number
decreases-loop-number l = length l.rest
