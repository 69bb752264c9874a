use Rattle.std.proofs.Common.{◌≡◌, ◌<◌, ℕ, Some}
use Rattle.std.specs.List.{slice_get}
use Rattle.frz_arena.specs.declared.class.Class.TheVariants.{Good}
use Rattle.frz_exits.specs.Values.{class_of, lag_of}
use Rattle.frz_plane_exits.specs.declared.exit_plane.ExitPlane.{ExitPlane}
use Rattle.frz_plane_chess.proofs.winning.wins_out.Given as goal

-- none of the exits so far is such a win
abbrev pub invariant-loop-exit : goal.invariant-loop-exit
invariant-loop-exit l =
    (k : ℕ) (exit : ExitPlane) → k < l.exit-index → slice_get l.exits k ≡ Some exit →
    class_of exit.value l.side ≡ Good → lag_of exit.value ≡ l.lag → ⊥
