use Rattle.std.proofs.Common.{◌<◌, ℕ}
use Rattle.frz_index.specs.Stepping.{IsShare}
use Rattle.frz_index.proofs.shares.share_of.Given as goal

abbrev pub invariant-loop-i : goal.invariant-loop-i
invariant-loop-i l = (j adds : ℕ) → j < l.i → IsShare l.groups l.man l.s j adds → ⊥
