use Rattle.std.proofs.Common.{◌&&◌}
use Rattle.frz_squares.specs.SquareSets.{has_square}
use Rattle.frz_plane_arms.specs.Binding.{is_binding}
use Rattle.frz_plane_arms.proofs.Marked.{AreMarked}
use Rattle.frz_plane_arms.proofs.binding.bound_squares.Given as goal

abbrev pub invariant-loop-line : goal.invariant-loop-line
invariant-loop-line l =
    AreMarked (λ line s. is_binding l.side l.captures line && has_square line.to s) l.lines
    l.line-index l.squares
