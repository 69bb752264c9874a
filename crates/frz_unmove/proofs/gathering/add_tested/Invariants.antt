use Rattle.std.proofs.Common.{◌≤◌, ◌-◌}
use Rattle.frz_unmove.specs.Adding.{Adds}
use Rattle.frz_unmove.specs.Gathering.{ComesAt}
use Rattle.frz_unmove.proofs.Adding.{Below}
use Rattle.frz_unmove.proofs.gathering.add_tested.Given as goal

abbrev pub invariant-loop-from : goal.invariant-loop-from
invariant-loop-from l =
    (l.n ≤ 64) × Adds (Below (ComesAt l.set l.q l.end.to l.end.promo l.end.taken l.target)
    (λ x. x.mv.from) l.n) l.fn.out l.out l.n

abbrev pub decreases-loop-from : goal.decreases-loop-from
decreases-loop-from l = 64 - l.n
