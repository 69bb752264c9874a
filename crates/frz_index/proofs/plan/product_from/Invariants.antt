use Rattle.std.proofs.Common.{◌≡◌, ◌*◌, ◌<◌}
use Rattle.frz_index.specs.Kept.{product_from}
use Rattle.frz_index.proofs.plan.product_from.Given as goal

abbrev pub invariant-loop-i : goal.invariant-loop-i
invariant-loop-i l =
    record {
      some : 0 < l.product;
      so_far : l.product * product_from l.groups l.i ≡ product_from
          l.groups l.from;
    }
