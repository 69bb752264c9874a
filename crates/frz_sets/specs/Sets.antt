-- The set that groups describe: which men it has where, the
-- turn states, and how many numbers it has.
use Rattle.std.specs.Prelude.{ℕ, ◌+◌, Bool, ◌==◌, ◌&&◌, ◌||◌, List, ◌∷◌, length, map, filter}
use Rattle.std.specs.List.{list_any}
use Rattle.frz_board.specs.declared.man.Colour.{Colour}
use Rattle.frz_board.specs.declared.man.Colour.TheVariants.{White, Black}
use Rattle.frz_board.specs.declared.man.Kind.TheVariants.{Pawn}
use Rattle.frz_board.specs.Squares.{is_beside, squares}
use Rattle.frz_board.specs.Men.{cell_of_man, other_of}
use Rattle.frz_board.specs.Ranks.{is_passing_rank, ahead}
use Rattle.frz_combinations.specs.Selections.{radix}
use Rattle.frz_combinations.specs.MixedRadix.{product}
use Rattle.frz_sets.specs.Views.{GroupLine}

-- by the states of the group the man of this cell may stand on this square
abbrev pub is_state : ℕ → ℕ → GroupLine → Bool
is_state cell s g =
    list_any (λ state. cell_of_man (record { colour = g.colour; kind = state.0 }) == cell
    && state.1 == s) g.states

-- by the states of some group the man of this cell may stand on this square
abbrev pub has_state : List GroupLine → ℕ → ℕ → Bool
has_state gs cell s = list_any (is_state cell s) gs

-- the cell of a pawn of this side
abbrev pub pawn : Colour → ℕ
pawn c = cell_of_man (record { colour = c; kind = Pawn })

-- a pawn of c can stand on b, and one of the other side beside it
abbrev pub is_pair : List GroupLine → Colour → ℕ → Bool
is_pair gs c b =
    has_state gs (pawn c) b
    && list_any (λ s. is_beside s b && has_state gs (pawn (other_of c)) s) squares

-- t can be a target that a pawn of c has passed: the pawn can stand ahead of t, with a pawn of the
-- other side beside it
abbrev pub is_possible_for : List GroupLine → Colour → ℕ → Bool
is_possible_for gs c t = is_passing_rank c t && is_pair gs c (ahead c t)

abbrev pub is_possible : List GroupLine → ℕ → Bool
is_possible gs t = is_possible_for gs White t || is_possible_for gs Black t

-- the possible targets in order
abbrev pub targets : List GroupLine → List ℕ
targets gs = filter (is_possible gs) squares

-- how many choices of men and squares the group has: from its least to its most, among its states
abbrev pub radix_of : GroupLine → ℕ
radix_of g = radix (length g.states) g.least g.most

-- the factors of the size: the turn states, which are White, Black and one for each possible
-- target, and then the choices of each group
abbrev pub radices : List GroupLine → List ℕ
radices gs = (2 + length (targets gs)) ∷ map radix_of gs

-- how many numbers the set has
abbrev pub size_of : List GroupLine → ℕ
size_of gs = product (radices gs)
