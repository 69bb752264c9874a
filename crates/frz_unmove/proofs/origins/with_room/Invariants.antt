use Rattle.std.proofs.Common.{◌≡◌, ℕ, ◌≤◌, ◌<◌, ◌-◌, ◌&&◌}
use Rattle.frz_squares.specs.SquareSets.{has_square}
use Rattle.frz_index.specs.Room.{has_room}
use Rattle.frz_unmove.proofs.origins.with_room.Given as goal

abbrev pub invariant-loop-s : goal.invariant-loop-s
invariant-loop-s l = record {
  low : l.n ≤ 64;
  below : (a : ℕ) → a < l.n → a < 64 →
      has_square l.kept a ≡ (has_square l.word a && has_room l.set l.p l.man a);
  above : (a : ℕ) → l.n ≤ a → a < 64 → has_square l.kept a ≡ has_square l.word a;
}

abbrev pub decreases-loop-s : goal.decreases-loop-s
decreases-loop-s l = 64 - l.n
