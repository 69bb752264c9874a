use Rattle.std.proofs.Common.{◌≡◌, ℕ, ◌<◌}
use Rattle.frz_planes.specs.Planes.{has_pair}
use Rattle.frz_king_planes.proofs.Exchanges.{with_low_of}
use Rattle.frz_king_planes.proofs.turning.turned.Given as goal

abbrev pub invariant-loop-i : goal.invariant-loop-i
invariant-loop-i l =
    (a b : ℕ) → a < 64 → b < 64 →
    has_pair l.pairs a b ≡ has_pair l.plane (with_low_of l.i a b) (with_low_of l.i b a)
