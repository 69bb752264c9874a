use Rattle.std.proofs.Common.{◌≡◌}
use Rattle.frz_combinations.specs.Binomials.{capped}
use Rattle.frz_combinations.specs.MixedRadix.{product}
use Rattle.frz_index.specs.OldDigits.{radices_from}
use Rattle.frz_index.proofs.old.radix_product.Given as goal

abbrev pub invariant-loop-k : goal.invariant-loop-k
invariant-loop-k l = l.product ≡ capped (product (radices_from l.states l.g.least 0 l.k))
