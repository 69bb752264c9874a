use Rattle.std.proofs.Common.{◌≡◌, ◌≤◌, ◌-◌, ◌<◌, ℕ, true, get_or}
use Rattle.frz_board.specs.Boards.{is_empty}
use Rattle.frz_king_planes.proofs.OpenSquares.{IsOpen}
use Rattle.frz_king_planes.proofs.attack.attacked_by_men.Given as goal

abbrev pub invariant-loop-m : goal.invariant-loop-m
invariant-loop-m l =
    (l.n ≤ 64)
    × ((s : ℕ) → s < 64 → is_empty l.p s ≡ true → IsOpen l.p s l.fn.by l.n (get_or l.pairs s 0))

abbrev pub decreases-loop-m : goal.decreases-loop-m
decreases-loop-m l = 64 - l.n
