use Rattle.std.proofs.Common.{◌+◌, ◌-◌, ◌*◌, ◌≤◌}
use Rattle.frz_unmove.specs.Adding.{Adds}
use Rattle.frz_unmove.specs.Gathering.{ComesTaking, first_target, target_key, target_of}
use Rattle.frz_unmove.proofs.Adding.{Below}
use Rattle.frz_unmove.proofs.gathering.add_each.Given as goal

abbrev pub invariant-loop-t : goal.invariant-loop-t
invariant-loop-t l = record {
  low : l.n ≤ 64;
  rank : l.n ≤ first_target l.q.turn + 8;
  added : Adds (Below (ComesTaking l.set l.q l.end.to l.end.promo l.end.taken)
      (λ x. target_key (target_of l.set x)) (l.n + 1)) l.fn.out l.out
      (64 * (1 + (l.n - first_target l.q.turn)));
}

abbrev pub decreases-loop-t : goal.decreases-loop-t
decreases-loop-t l = 64 - l.n
