use Rattle.std.proofs.Common.{◌≡◌, ◌<◌, ℕ, [], length}
use Rattle.std.specs.List.{slice_index_or}
use Rattle.frz_kingless.specs.Boards.{AreLive}
use Rattle.frz_plane_chess.proofs.building.all_lives.Given as goal

abbrev pub invariant-loop-c : goal.invariant-loop-c
invariant-loop-c l = record {
  many : length l.lives.items ≡ l.c;
  live : (d : ℕ) → d < l.c →
      AreLive l.configurations.rules.now.groups d (slice_index_or l.lives.items d []);
}
