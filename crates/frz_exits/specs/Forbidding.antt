-- Which moves the rules forbid a side.
use Rattle.std.specs.Prelude.{not, Bool, true, ◌&&◌, ◌||◌, List, is_some}
use Rattle.std.specs.List.{list_any}
use Rattle.frz_board.specs.declared.man.Colour.{Colour}
use Rattle.frz_board.specs.declared.man.Kind.TheVariants.{Pawn}
use Rattle.frz_board.specs.Men.{same_colour}
use Rattle.frz_board.specs.Boards.{Board, is_empty, has}
use Rattle.frz_board.specs.Moving.{Step}
use Rattle.frz_fide.specs.Legal.{takes_in_passing}
use Rattle.frz_squares.specs.SquareSets.{has_square}
use Rattle.frz_sets.specs.declared.forbid.Only.{Only}
use Rattle.frz_sets.specs.declared.forbid.Only.TheVariants.{Any, Capture, Promotion}
use Rattle.frz_sets.specs.declared.forbid.Forbid.{Forbid}
use Rattle.frz_sets.specs.Views.{RuleLines}

-- a pawn captures the one that has just passed its square (FIDE 3.7)
abbrev pub is_en_passant : Board → Step → Bool
is_en_passant p m =
    has p p.turn Pawn m.from && takes_in_passing p p.turn m.from m.to

-- the move captures a man, en passant too
abbrev pub is_capture : Board → Step → Bool
is_capture p m = not (is_empty p m.to) || is_en_passant p m

-- the move is of the sort that the line names: any move, a capture or a promotion
abbrev pub is_such : Only → Board → Step → Bool
is_such Any p m = true
is_such Capture p m = is_capture p m
is_such Promotion p m = is_some m.promo

-- the line covers the move: a man of its colour and kind moves from one of its first squares to one
-- of its second, and the move is of the sort that it names
unfoldable pub covers : Forbid → Board → Step → Bool
covers line p m =
    has p line.colour line.kind m.from
    && (has_square line.from m.from && has_square line.to m.to)
    && is_such line.only p m

-- one of the lines is of the side and covers the move: it forbids the side the move
abbrev pub is_forbidden : List Forbid → Colour → Board → Step → Bool
is_forbidden lines side p m =
    list_any (λ line. same_colour line.colour side && covers line p m) lines

-- no forbid line of the side covers the move
abbrev pub is_free : RuleLines → Colour → Board → Step → Bool
is_free rules side p m = not (is_forbidden rules.forbids side p m)
