use Rattle.std.proofs.Common.{◌≤◌, ◌*◌, ◌-◌}
use Rattle.frz_unmove.specs.Adding.{Adds}
use Rattle.frz_unmove.specs.Gathering.{Comes}
use Rattle.frz_unmove.proofs.Adding.{Below}
use Rattle.frz_unmove.proofs.Movers.{movers_below}
use Rattle.frz_unmove.proofs.gathering.add_all.Given as goal

abbrev pub invariant-loop-to : goal.invariant-loop-to
invariant-loop-to l =
    (l.n ≤ 64) × Adds (Below (Comes l.set l.q) (λ x. x.mv.to) l.n) l.fn.out l.out
    (6912 * movers_below l.q l.n)

abbrev pub decreases-loop-to : goal.decreases-loop-to
decreases-loop-to l = 64 - l.n
