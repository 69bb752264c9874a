-- The forbid lines that bind a king.
use Rattle.std.specs.Prelude.{ℕ, Bool, true, false, not, ◌&&◌, List}
use Rattle.std.specs.List.{list_any}
use Rattle.frz_board.specs.declared.man.Colour.{Colour}
use Rattle.frz_board.specs.declared.man.Kind.{Kind}
use Rattle.frz_board.specs.declared.man.Kind.TheVariants.{King}
use Rattle.frz_board.specs.Men.{same_colour}
use Rattle.frz_squares.specs.SquareSets.{has_square}
use Rattle.frz_squares.specs.Steps.{any_step}
use Rattle.frz_sets.specs.declared.forbid.Only.{Only}
use Rattle.frz_sets.specs.declared.forbid.Only.TheVariants.{Any, Capture, Promotion}
use Rattle.frz_sets.specs.declared.forbid.Forbid.{Forbid}
use Rattle.frz_planes.specs.Planes.{has_pair}
use Rattle.frz_king_planes.specs.Kings.{king_square}
use Rattle.frz_pair_moves.specs.Kings.{black_then, steps_onto, white_then}

abbrev pub is_king : Kind → Bool
is_king King = true
is_king _ = false

-- a king's captures, or else his other steps, are among the moves that a line names
abbrev pub names_king : Only → (captures : Bool) → Bool
names_king Any captures = true
names_king Capture captures = captures
names_king Promotion captures = false

-- the line binds the king of the side: in captures, or in other steps
abbrev pub is_binding : Colour → (captures : Bool) → Forbid → Bool
is_binding side captures line =
    same_colour line.colour side && (is_king line.kind && names_king line.only captures)

-- such a line leads to s
abbrev pub is_bound_to : List Forbid → Colour → (captures : Bool) → (s : ℕ) → Bool
is_bound_to lines side captures s =
    list_any (λ line. is_binding side captures line && has_square line.to s) lines

-- no such line leads from a to s
abbrev pub may_go : List Forbid → Colour → (captures : Bool) → (a s : ℕ) → Bool
may_go lines side captures a s =
    not (list_any
    (λ line. (is_binding side captures line && has_square line.to s) && has_square line.from a)
    lines)

-- the king of the side to move may go one step to an empty square, to a pair of the plane
abbrev pub steps_freely : List Forbid → Colour → List ℕ → (a b : ℕ) → Bool
steps_freely lines c plane a b =
    any_step (king_square c a b)
    (λ s. may_go lines c false (king_square c a b) s
    && has_pair plane (white_then c a s) (black_then c b s))

-- so he may go to s
abbrev pub arrives_freely : List Forbid → Colour → (captures : Bool) → (s : ℕ) → List ℕ →
    (a b : ℕ) → Bool
arrives_freely lines c captures s plane a b =
    steps_onto c s plane a b && may_go lines c captures (king_square c a b) s
