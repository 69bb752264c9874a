-- The steps in order: by origin, then destination, then promotion.
use Rattle.std.specs.Prelude.{ℕ, ◌≡◌, ◌+◌, ◌*◌, ◌/◌, ◌%◌, ◌<◌, ◌≤◌, ◌==◌, true, false, Option, None, Some, if◌then◌else◌}
use Rattle.frz_board.specs.declared.man.Kind.{Kind}
use Rattle.frz_board.specs.declared.man.Kind.TheVariants.{Queen, Rook, Bishop, Knight}
use Rattle.frz_board.specs.Boards.{Board}
use Rattle.frz_board.specs.Moving.{Step, promotion_number}
use Rattle.frz_fide.specs.Legal.{can_go}

-- the promotions by their numbers: none, queen, rook, bishop, knight
abbrev pub promotion_at : ℕ → Option Kind
promotion_at r =
    if r == 1 then Some Queen else (if r == 2 then Some Rook else
    (if r == 3 then Some Bishop else (if r == 4 then Some Knight else None)))

-- the step of a number below 20480: five from each square to each square
abbrev pub step_at : ℕ → Step
step_at n = record { from = n / 320; to = (n / 5) % 64; promo = promotion_at (n % 5) }

abbrev pub step_number : Step → ℕ
step_number m = (64 * m.from + m.to) * 5 + promotion_number m.promo

-- no man of the side to move can make a step with this number or one above it
pub record HasNoStepFrom (p : Board) (n : ℕ) : Type 0 where
  pub none : (k : ℕ) → n ≤ k → k < 20480 → can_go p (step_at k) ≡ false

-- the first number from n on of a step that a man of the side to move can make
pub record IsNextStep (p : Board) (n s : ℕ) : Type 0 where
  pub from : n ≤ s
  pub below : s < 20480
  pub can : can_go p (step_at s) ≡ true
  pub first : (k : ℕ) → n ≤ k → k < s → can_go p (step_at k) ≡ false
