-- Rivals of a move; the module Notation computes whether there is one.
use Rattle.std.specs.Prelude.{◌≡◌, ◌≢◌, true}
use Rattle.frz_board.specs.Boards.{Board, man_on}
use Rattle.frz_board.specs.Moving.{Step, IsStep}
use Rattle.frz_fide.specs.Legal.{is_legal}

-- n is a legal move that brings a man of the same kind and colour as m does to the same square,
-- from another one
pub record Rival (p : Board) (m n : Step) : Type 0 where
  pub step : IsStep n
  pub legal : is_legal p n ≡ true
  pub man : man_on p n.from ≡ man_on p m.from
  pub to : n.to ≡ m.to
  pub from : n.from ≢ m.from
