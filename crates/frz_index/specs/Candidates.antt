-- The way back from a number: the men of its digits are put on an empty board.
use Rattle.std.specs.Prelude.{ℕ, ◌/◌, ◌%◌, Option, None, Some, List, [], ◌∷◌, length, map, replicate, slice_set}
use Rattle.std.specs.List.{slice_get}
use Rattle.frz_board.specs.declared.man.Colour.{Colour}
use Rattle.frz_board.specs.declared.man.Kind.{Kind}
use Rattle.frz_board.specs.Men.{cell_of_man}
use Rattle.frz_board.specs.Boards.{Board}
use Rattle.frz_combinations.specs.Selections.{selection_at}
use Rattle.frz_combinations.specs.MixedRadix.{product, digits}
use Rattle.frz_sets.specs.Views.{GroupLine}
use Rattle.frz_sets.specs.Sets.{radix_of, targets}
use Rattle.frz_index.specs.TurnStates.{turn_in}

-- the man of a state is put on its square
abbrev pub put_man : Colour → Option (Kind × ℕ) → List ℕ → List ℕ
put_man c None cells = cells
put_man c (Some state) cells =
    slice_set cells state.1 (cell_of_man (record { colour = c; kind = state.0 }))

-- the men of the states at these places are put on their squares
abbrev pub put_men : Colour → List (Kind × ℕ) → List ℕ → List ℕ → List ℕ
put_men c states [] cells = cells
put_men c states (k ∷ ks) cells = put_men c states ks (put_man c (slice_get states k) cells)

-- the men that a group's digit stands for are put on their squares
abbrev pub put_group : GroupLine → ℕ → List ℕ → List ℕ
put_group g d cells =
    put_men g.colour g.states (selection_at (length g.states) g.least g.most d) cells

-- the men that the digits of all groups stand for are put on their squares
abbrev pub put_groups : List GroupLine → List ℕ → List ℕ → List ℕ
put_groups [] ds cells = cells
put_groups (g ∷ gs) [] cells = cells
put_groups (g ∷ gs) (d ∷ ds) cells = put_groups gs ds (put_group g d cells)

-- the empty board
unfoldable pub no_men : List ℕ
no_men = replicate 64 0

-- the only position that may have this number
abbrev pub candidate : List GroupLine → ℕ → Board
candidate gs i =
    let rest = i % product (map radix_of gs) in
    let turn = turn_in (targets gs) (i / product (map radix_of gs)) in
    record {
      cells = put_groups gs (digits (map radix_of gs) rest) no_men;
      turn = turn.0;
      ep = turn.1;
    }
