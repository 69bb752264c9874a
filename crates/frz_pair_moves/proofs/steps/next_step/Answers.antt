use Rattle.std.proofs.Common.{◌≡◌, ℕ, ◌≤◌, ◌<◌, ◌∙◌, ap, sym, arith, false, inl, inr}
use Rattle.std.proofs.lemmas.Bool.{cases_order}
use Rattle.frz_board.specs.Boards.{Board}
use Rattle.frz_fide.specs.Legal.{can_go}
use Rattle.frz_pair_moves.specs.Steps.{step_at}
use Rattle.frz_pair_moves.proofs.steps.next_step.Goals as goal

more : (p : Board) (n k r : ℕ) →
    ((j : ℕ) → n ≤ j → j < k → can_go p (step_at j) ≡ false) → can_go p (step_at k) ≡ false →
    ((j : ℕ) → k < j → j < r → can_go p (step_at j) ≡ false) →
    (j : ℕ) → n ≤ j → j < r → can_go p (step_at j) ≡ false
more p n k r before here after j from below =
    elim (cases_order j k) [
      | inl e ↦ ap (λ i. can_go p (step_at i)) e ∙ here
      | inr w ↦ elim w [ inl l ↦ before j from l | inr g ↦ after j g below ]
    ]

pub loop-k-preserved : goal.loop-k-preserved
loop-k-preserved c =
    let p = c.args.p.now in
    let k = c.loop-k.k in
    let further = c.following-k.ensures.further in
    let from = c.loop-k.invariant.0 in
    let here : can_go p (step_at k) ≡ false = ap (can_go p) (sym c.step_at.ensures)
    ∙ sym c.can_go.ensures ∙ c.if-can_go.false in (
      omega arith,
      c.following-k.ensures.below,
      more p c.args.n k c.following-k.result c.loop-k.invariant.2 here c.following-k.ensures.passed,
    )
