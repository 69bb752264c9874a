use Rattle.std.proofs.Common.{◌↔◌}
use Rattle.std.specs.Bool.{IsTrue}
use Rattle.frz_plane_chess.specs.Counted.{IsWorth}
use Rattle.frz_plane_chess.proofs.GatheredExits.{AreGathered}
use Rattle.frz_plane_chess.proofs.leaving.leaving.Given as goal

abbrev pub invariant-loop-exit : goal.invariant-loop-exit
invariant-loop-exit l =
    AreGathered l.exits l.only_free (λ v. IsTrue l.into ↔ IsWorth l.side l.worth v) l.exit-index l.pairs
