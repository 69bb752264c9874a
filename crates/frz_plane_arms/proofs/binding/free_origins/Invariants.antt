use Rattle.std.proofs.Common.{◌&&◌}
use Rattle.frz_squares.specs.SquareSets.{has_square}
use Rattle.frz_plane_arms.specs.Binding.{is_binding}
use Rattle.frz_plane_arms.proofs.Marked.{AreMarked}
use Rattle.frz_plane_arms.proofs.binding.free_origins.Given as goal

abbrev pub invariant-loop-line : goal.invariant-loop-line
invariant-loop-line l =
    AreMarked
    (λ line a. (is_binding l.side l.captures line && has_square line.to l.s) && has_square line.from a)
    l.lines l.line-index l.bound
