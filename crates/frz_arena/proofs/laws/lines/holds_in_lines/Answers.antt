use Rattle.std.proofs.Common.{◌≡◌, ◌≤◌, ℕ, refl, arith}
use Rattle.frz_arena.specs.WayEnds.{Cut}
use Rattle.frz_arena.proofs.Ways.KeptWays.{drawn_way, cut_way}
use Rattle.frz_arena.proofs.laws.lines.holds_in_lines.Goals as goal

one_at_most : (c : ℕ) → c ≡ 1 → c ≤ 1
one_at_most c e = omega (arith, e)

pub returns-clause-drawn : goal.returns-clause-drawn
returns-clause-drawn g c player line s t p xs e k w =
    drawn_way player 0 s t p xs e line (one_at_most (player.entry p) k) w

pub returns-clause-few : goal.returns-clause-few
returns-clause-few g c player most o s t p xs e k w =
    let r = (cut_way player most 0 s t p xs e o (omega arith) (one_at_most (player.entry p) k)
    w).0 in omega (arith, r)

pub returns-clause-cut : goal.returns-clause-cut
returns-clause-cut g c player most o s t p xs k w =
    let r = (cut_way player most 0 s t p xs Cut o (omega arith) (one_at_most (player.entry p) k)
    w).1 refl in omega (arith, r)
