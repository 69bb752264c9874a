use Rattle.std.proofs.Common.{ℕ, ◌<◌}
use Rattle.frz_index.specs.Stepping.{HasOnBoth}
use Rattle.frz_index.proofs.among.group_of.Given as goal

abbrev pub invariant-loop-j : goal.invariant-loop-j
invariant-loop-j l = (i : ℕ) → i < l.j → HasOnBoth l.groups l.man l.a l.b i → ⊥
