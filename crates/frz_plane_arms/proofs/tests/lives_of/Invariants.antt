use Rattle.std.proofs.Common.{◌≡◌, length}
use Rattle.frz_plane_arms.proofs.tests.lives_of.Given as goal

abbrev pub invariant-loop-c : goal.invariant-loop-c
invariant-loop-c l = length l.lives.items ≡ l.c
