use Rattle.std.proofs.Common.{◌≡◌, ℕ, ◌<◌}
use Rattle.frz_squares.specs.SquareSets.{has_square}
use Rattle.frz_planes.specs.Planes.{has_pair}
use Rattle.frz_king_planes.proofs.turning.column.Given as goal

abbrev pub invariant-loop-a : goal.invariant-loop-a
invariant-loop-a l = (k : ℕ) → k < l.a → has_square l.word k ≡ has_pair l.plane k l.b
