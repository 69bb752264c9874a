use Rattle.std.proofs.Common.{◌≡◌, ◌≤◌, ℕ, arith}
use Rattle.frz_arena.proofs.Ways.FoundArms.{small_is_no_failure}
use Rattle.frz_arena.proofs.Ways.KeptWays.{held_way}
use Rattle.frz_arena.proofs.laws.ways.holds_are_kept.Goals as goal

one_at_most : (c : ℕ) → c ≡ 1 → c ≤ 1
one_at_most c e = omega (arith, e)

pub returns : goal.returns
returns g c player s t p xs e k w =
    held_way player 0 s t p xs e
    (small_is_no_failure (player.entry p) (one_at_most (player.entry p) k)) w
