-- The states of a group, and what can be wrong with a group behind earlier ones.
use Rattle.std.specs.Prelude.{ℕ, ◌+◌, ◌-◌, ◌*◌, ◌/◌, ◌%◌, Bool, not, ◌&&◌, ◌||◌, ◌==◌, nat_lt, List, [], ◌∷◌, length, if◌then◌else◌}
use Rattle.std.specs.List.{list_any}
use Rattle.frz_board.specs.declared.man.Colour.{Colour}
use Rattle.frz_board.specs.declared.man.Kind.{Kind}
use Rattle.frz_board.specs.Squares.{rank_of}
use Rattle.frz_board.specs.Men.{number_of_kind, kind_of_number, same_colour, is_pawn}
use Rattle.frz_sets.specs.Views.{GroupLine}

-- the state of a number: by kind, then square, 64 of each of the six kinds
abbrev pub state_at : ℕ → Kind × ℕ
state_at n = (kind_of_number (n / 64 + 1), n % 64)

abbrev pub state_number : Kind × ℕ → ℕ
state_number s = 64 * (number_of_kind s.0 - 1) + s.1

abbrev pub same_state : Kind × ℕ → Kind × ℕ → Bool
same_state s t = number_of_kind s.0 == number_of_kind t.0 && s.1 == t.1

abbrev pub is_king : Kind × ℕ → Bool
is_king s = number_of_kind s.0 == 1

-- a pawn on rank 1 or 8
abbrev pub is_end_pawn : Kind × ℕ → Bool
is_end_pawn s = is_pawn s.0 && (rank_of s.1 == 0 || rank_of s.1 == 7)

abbrev pub is_bad_count : GroupLine → Bool
is_bad_count g = nat_lt g.most g.least || (g.most == 0 || nat_lt (length g.states) g.most)

-- some group of this colour has a king among its states
abbrev pub has_king_group : List GroupLine → Colour → Bool
has_king_group groups c = list_any (λ g. same_colour g.colour c && list_any is_king g.states) groups

-- a group with king states is bad where it has other states too, or not exactly one man, or is not
-- the first of its colour with king states
abbrev pub is_bad_king : List GroupLine → GroupLine → Bool
is_bad_king earlier g =
    list_any is_king g.states
    && (list_any (λ s. not (is_king s)) g.states
    || (not (g.least == 1 && g.most == 1) || has_king_group earlier g.colour))

abbrev pub shares : List (Kind × ℕ) → List (Kind × ℕ) → Bool
shares states others = list_any (λ s. list_any (same_state s) others) states

-- an earlier group of the colour has one of the states
abbrev pub overlaps : List GroupLine → GroupLine → Bool
overlaps earlier g =
    list_any (λ e. same_colour e.colour g.colour && shares e.states g.states) earlier

-- the sum of the most men of each group of this colour
abbrev pub most_men_of : List GroupLine → Colour → ℕ
most_men_of [] c = 0
most_men_of (g ∷ groups) c = (if same_colour g.colour c then g.most else 0) + most_men_of groups c
