-- Captures: a man of the opponent leaves the board.
use Rattle.std.specs.Prelude.{◌≡◌, ◌<◌, ℕ, true, false}
use Rattle.frz_board.specs.Boards.{Board, holds}
use Rattle.frz_board.specs.Men.{other_of}
use Rattle.frz_board.specs.Moving.{Step}
use Rattle.frz_fide.specs.Legal.{after}

-- a man of the opponent stands on a square before the move, and none does afterwards
pub record Leaves (p : Board) (m : Step) : Type 0 where
  pub square : ℕ
  pub on_board : square < 64
  pub before : holds p (other_of p.turn) square ≡ true
  pub after : holds (after p m) (other_of p.turn) square ≡ false
