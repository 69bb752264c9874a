use Rattle.std.proofs.Common.{◌≡◌, ◌≤◌, ◌-◌}
use Rattle.frz_fide.proofs.Order.{from_below}
use Rattle.frz_fide.proofs.moves.add_from.Given as goal

abbrev pub invariant-loop-to : goal.invariant-loop-to
invariant-loop-to l = (l.n ≤ 64) × (l.list.items ≡ from_below l.fn.list.items l.p l.from l.n)

abbrev pub decreases-loop-to : goal.decreases-loop-to
decreases-loop-to l = 64 - l.n
