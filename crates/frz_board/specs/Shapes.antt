-- The conditions on a position that need no look at attacks, in order.
use Rattle.std.specs.Prelude.{not, ℕ, Bool, ◌==◌, ◌&&◌, ◌||◌, nat_le, count_by, Result, Ok, Err, if◌then◌else◌}
use Rattle.std.specs.List.{list_all}
use Rattle.frz_board.specs.declared.man.Colour.{Colour}
use Rattle.frz_board.specs.declared.man.Colour.TheVariants.{White, Black}
use Rattle.frz_board.specs.declared.man.Kind.{Kind}
use Rattle.frz_board.specs.declared.man.Kind.TheVariants.{King, Pawn}
use Rattle.frz_board.specs.declared.shape.Shape.{Shape}
use Rattle.frz_board.specs.declared.shape.Shape.TheVariants.{Kings, PawnRank, TooMany, EpPlace}
use Rattle.frz_board.specs.Squares.{squares, rank_of}
use Rattle.frz_board.specs.Men.{cell_of_man, man_of_cell, is_man_of}
use Rattle.frz_board.specs.Boards.{Board, has}
use Rattle.frz_board.specs.EnPassant.{has_target_in_place}

-- how many cells hold this man
abbrev pub count_of : Board → Colour → Kind → ℕ
count_of p c k = count_by (λ x. x == cell_of_man (record { colour = c; kind = k })) p.cells

-- how many men the side has
unfoldable pub men_of : Board → Colour → ℕ
men_of p c = count_by (λ x. is_man_of c (man_of_cell x)) p.cells

-- each side has exactly one king (FIDE 2.2)
unfoldable pub has_kings : Board → Bool
has_kings p = count_of p White King == 1 && count_of p Black King == 1

-- the first and the last rank
abbrev pub is_end : ℕ → Bool
is_end s = rank_of s == 0 || rank_of s == 7

-- a pawn of either side stands on the square
abbrev pub has_pawn : Board → ℕ → Bool
has_pawn p s = has p White Pawn s || has p Black Pawn s

-- no pawn stands on rank 1 or rank 8 (FIDE 3.7)
unfoldable pub has_pawns_inside : Board → Bool
has_pawns_inside p = list_all (λ s. not (is_end s && has_pawn p s)) squares

-- each side has at most 16 men (FIDE 2.2)
unfoldable pub has_few_men : Board → Bool
has_few_men p = nat_le (men_of p White) 16 && nat_le (men_of p Black) 16

-- the first of the conditions that fails, or Ok where all hold
abbrev pub shape_of : Board → Result (Unit {0}) Shape
shape_of p =
    if not (has_kings p) then Err Kings else
    (if not (has_pawns_inside p) then Err PawnRank else
    (if not (has_few_men p) then Err TooMany else
    (if not (has_target_in_place p) then Err EpPlace else Ok tt)))
