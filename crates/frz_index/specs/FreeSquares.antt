-- Whether the men of a number's digits, put on an empty board, stand on squares of their own.
use Rattle.std.specs.Prelude.{ℕ, ◌%◌, Bool, true, ◌&&◌, ◌==◌, Option, None, Some, List, [], ◌∷◌, length, map, slice_index}
use Rattle.std.specs.List.{slice_get}
use Rattle.frz_board.specs.declared.man.Colour.{Colour}
use Rattle.frz_board.specs.declared.man.Kind.{Kind}
use Rattle.frz_combinations.specs.Selections.{selection_at}
use Rattle.frz_combinations.specs.MixedRadix.{product, digits}
use Rattle.frz_sets.specs.Views.{GroupLine}
use Rattle.frz_sets.specs.Sets.{radix_of}
use Rattle.frz_index.specs.Candidates.{no_men, put_group, put_man}

-- the square of the state is empty
abbrev pub is_free : Option (Kind × ℕ) → List ℕ → Bool
is_free None cells = true
is_free (Some state) cells = slice_index cells state.1 == 0

-- the men of these places, put one after another, find their squares empty
abbrev pub are_free : Colour → List (Kind × ℕ) → List ℕ → List ℕ → Bool
are_free c states [] cells = true
are_free c states (k ∷ ks) cells =
    is_free (slice_get states k) cells
    && are_free c states ks (put_man c (slice_get states k) cells)

-- the men of a group's digit find their squares empty
abbrev pub is_group_free : GroupLine → ℕ → List ℕ → Bool
is_group_free g d cells =
    are_free g.colour g.states (selection_at (length g.states) g.least g.most d) cells

-- the men of the digits of all groups find their squares empty
abbrev pub are_groups_free : List GroupLine → List ℕ → List ℕ → Bool
are_groups_free [] ds cells = true
are_groups_free (g ∷ gs) [] cells = true
are_groups_free (g ∷ gs) (d ∷ ds) cells =
    is_group_free g d cells && are_groups_free gs ds (put_group g d cells)

-- no two men of the number's candidate would stand on one square
abbrev pub is_spread : List GroupLine → ℕ → Bool
is_spread gs i =
    are_groups_free gs (digits (map radix_of gs) (i % product (map radix_of gs))) no_men
