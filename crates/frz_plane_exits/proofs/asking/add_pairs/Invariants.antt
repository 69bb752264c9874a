use Rattle.std.proofs.Common.{ℕ, ◌-◌, ◌≤◌, Bool}
use Rattle.frz_fide.specs.Legal.{after}
use Rattle.frz_exits.specs.Forbidding.{is_free}
use Rattle.frz_sets.specs.declared.exit.Value.{Value}
use Rattle.frz_king_planes.specs.Kings.{with_kings}
use Rattle.frz_plane_exits.specs.Adding.{Adds}
use Rattle.frz_plane_exits.specs.Leaving.{step_by}
use Rattle.frz_plane_exits.proofs.AskedPairs.{AskedBelow}
use Rattle.frz_plane_exits.proofs.asking.add_pairs.Given as goal

-- the pairs with numbers below n were added
abbrev pub invariant-loop-a : goal.invariant-loop-a
invariant-loop-a g l =
    let value : (a b : ℕ) → Value =
    λ a b. g.B.ExitBook.value_at l.book (after (with_kings l.p a b) (step_by l.mover l.p.turn a b)) in
    let freedom : (a b : ℕ) → Bool =
    λ a b. is_free l.rules l.p.turn (with_kings l.p a b) (step_by l.mover l.p.turn a b) in
    (l.n ≤ 4096) × Adds l.fn.exits.items l.exits.items (AskedBelow l.pairs value freedom l.n)

abbrev pub decreases-loop-a : goal.decreases-loop-a
decreases-loop-a g l = 4096 - l.n
