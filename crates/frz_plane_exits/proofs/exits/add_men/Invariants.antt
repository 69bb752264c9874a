use Rattle.std.proofs.Common.{◌-◌, ◌≤◌}
use Rattle.frz_plane_exits.specs.Adding.{Adds}
use Rattle.frz_plane_exits.proofs.AllMen.{ManBelow}
use Rattle.frz_plane_exits.proofs.exits.add_men.Given as goal

-- the exits of the steps with numbers below n were added
abbrev pub invariant-loop-k : goal.invariant-loop-k
invariant-loop-k g l =
    (l.n ≤ 20480)
    × Adds l.fn.exits.items l.exits.items
    (ManBelow l.configurations.rules.now (g.B.ExitBook.value_at l.book) l.p l.n)

abbrev pub decreases-loop-k : goal.decreases-loop-k
decreases-loop-k g l = 20480 - l.n
