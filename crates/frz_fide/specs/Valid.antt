-- A valid position.
use Rattle.std.specs.Prelude.{◌≡◌, true, false, Result, Ok, Err, if◌then◌else◌}
use Rattle.frz_board.specs.declared.shape.Shape.{Shape}
use Rattle.frz_board.specs.Men.{other_of}
use Rattle.frz_board.specs.Boards.{Board, CellsFit}
use Rattle.frz_board.specs.Attacks.{is_in_check}
use Rattle.frz_board.specs.EnPassant.{has_target_in_place}
use Rattle.frz_board.specs.Shapes.{has_kings, has_pawns_inside, has_few_men, shape_of}
use Rattle.frz_fide.specs.declared.validity.Invalid.{Invalid}
use Rattle.frz_fide.specs.declared.validity.Invalid.TheVariants.{Shape as OfShape, OpponentInCheck}

-- a valid position: five conditions, the last that the side not to move is not in check
-- (FIDE 3.9.2)
pub record IsValid (p : Board) : Type 0 where
  pub fits : CellsFit p.cells
  pub kings : has_kings p ≡ true
  pub pawns : has_pawns_inside p ≡ true
  pub men : has_few_men p ≡ true
  pub target : has_target_in_place p ≡ true
  pub safe : is_in_check p (other_of p.turn) ≡ false

abbrev pub safety_of : Board → Result (Unit {0}) Shape → Result (Unit {0}) Invalid
safety_of p (Err e) = Err (OfShape e)
safety_of p (Ok _) = if is_in_check p (other_of p.turn) then Err OpponentInCheck else Ok tt

-- the first of the five conditions that fails
abbrev pub validity_of : Board → Result (Unit {0}) Invalid
validity_of p = safety_of p (shape_of p)
