use Rattle.std.proofs.Common.{◌≡◌, ℕ, ◌≤◌, ◌<◌, ◌-◌, false}
use Rattle.frz_fide.specs.Legal.{can_go}
use Rattle.frz_pair_moves.specs.Steps.{step_at}
use Rattle.frz_pair_moves.proofs.steps.next_step.Given as goal

abbrev pub invariant-loop-k : goal.invariant-loop-k
invariant-loop-k l =
    (l.fn.n ≤ l.k) × (l.k ≤ 20480)
    × ((j : ℕ) → l.fn.n ≤ j → j < l.k → can_go l.p (step_at j) ≡ false)

abbrev pub decreases-loop-k : goal.decreases-loop-k
decreases-loop-k l = 20480 - l.k
