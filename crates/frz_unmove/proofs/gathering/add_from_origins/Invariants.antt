use Rattle.std.proofs.Common.{◌+◌, ◌*◌}
use Rattle.frz_unmove.specs.Adding.{Adds}
use Rattle.frz_unmove.specs.Gathering.{ComesAs, first_taken, taken_of}
use Rattle.frz_unmove.proofs.Adding.{Below}
use Rattle.frz_unmove.proofs.gathering.add_from_origins.Given as goal

abbrev pub invariant-loop-k : goal.invariant-loop-k
invariant-loop-k l =
    Adds (Below (ComesAs l.set l.q l.fn.to l.fn.promo) (taken_of l.set)
    (first_taken l.q.turn + l.k)) l.fn.out l.out (576 + 576 * l.k)
