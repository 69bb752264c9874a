use Rattle.std.proofs.Common.{◌≡◌, ◌<◌, ℕ, suc, length, slice_index}
use Rattle.frz_index.specs.Kept.{product_from}
use Rattle.frz_index.proofs.plan.weights_of.Given as goal

abbrev pub invariant-loop-i : goal.invariant-loop-i
invariant-loop-i l =
    record {
      size : length l.weights.items ≡ l.i;
      known : (k : ℕ) → k < l.i
          → slice_index l.weights.items k ≡ product_from l.groups (suc k);
    }
