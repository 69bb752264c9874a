use Rattle.std.specs.Prelude.{⊤}
use Rattle.frz_plane_chess.proofs.GatheredExits.{AreGathered}
use Rattle.frz_plane_chess.proofs.leaving.leaving_anywhere.Given as goal

abbrev pub invariant-loop-exit : goal.invariant-loop-exit
invariant-loop-exit l =
    AreGathered l.exits l.only_free (λ _. ⊤) l.exit-index l.pairs
