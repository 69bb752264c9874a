use Rattle.std.proofs.Common.{◌≡◌, ◌≤◌, ◌-◌}
use Rattle.frz_squares.specs.SquareSets.{bits_below}
use Rattle.frz_fide.proofs.Targets.{has_way}
use Rattle.frz_fide.proofs.ways.pawn_ways.Given as goal

abbrev pub invariant-loop-b : goal.invariant-loop-b
invariant-loop-b l =
    (l.n ≤ 64) × (l.word ≡ bits_below (has_way l.p l.fn.man l.a l.squares) l.n)

abbrev pub decreases-loop-b : goal.decreases-loop-b
decreases-loop-b l = 64 - l.n
