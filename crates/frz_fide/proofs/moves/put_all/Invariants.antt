use Rattle.std.proofs.Common.{◌≡◌, ◌≤◌, ◌-◌}
use Rattle.frz_fide.proofs.Order.{all_below}
use Rattle.frz_fide.proofs.moves.put_all.Given as goal

abbrev pub invariant-loop-from : goal.invariant-loop-from
invariant-loop-from l = (l.n ≤ 64) × (l.list.items ≡ all_below l.p l.n)

abbrev pub decreases-loop-from : goal.decreases-loop-from
decreases-loop-from l = 64 - l.n
