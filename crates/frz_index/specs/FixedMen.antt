-- The men of groups that fill all their states: they stand on the same squares in each number. The
-- others are loose.
use Rattle.std.specs.Prelude.{ℕ, Bool, true, ◌&&◌, ◌==◌, List, [], ◌∷◌, length, if◌then◌else◌}
use Rattle.frz_sets.specs.Views.{GroupLine}
use Rattle.frz_index.specs.Candidates.{put_group}
use Rattle.frz_index.specs.FreeSquares.{is_group_free}

-- the group has at least as many men as states
abbrev pub is_fixed : GroupLine → Bool
is_fixed g = g.least == length g.states

-- the men of a fixed group are put on their squares, and those of a loose one left out
abbrev pub put_if_fixed : GroupLine → List ℕ → List ℕ
put_if_fixed g cells = if is_fixed g then put_group g 0 cells else cells

abbrev pub is_free_if_fixed : GroupLine → List ℕ → Bool
is_free_if_fixed g cells = if is_fixed g then is_group_free g 0 cells else true

-- the men of all fixed groups are put on their squares
abbrev pub put_fixed : List GroupLine → List ℕ → List ℕ
put_fixed [] cells = cells
put_fixed (g ∷ gs) cells = put_fixed gs (put_if_fixed g cells)

-- the men of all fixed groups find their squares empty
abbrev pub are_fixed_free : List GroupLine → List ℕ → Bool
are_fixed_free [] cells = true
are_fixed_free (g ∷ gs) cells = is_free_if_fixed g cells && are_fixed_free gs (put_if_fixed g cells)

-- the men of a loose group's digit are put on their squares, and those of a fixed one left out
abbrev pub put_if_loose : GroupLine → ℕ → List ℕ → List ℕ
put_if_loose g d cells = if is_fixed g then cells else put_group g d cells

abbrev pub is_free_if_loose : GroupLine → ℕ → List ℕ → Bool
is_free_if_loose g d cells = if is_fixed g then true else is_group_free g d cells

-- the men of the digits of all loose groups are put on their squares
abbrev pub put_loose : List GroupLine → List ℕ → List ℕ → List ℕ
put_loose [] ds cells = cells
put_loose (g ∷ gs) [] cells = cells
put_loose (g ∷ gs) (d ∷ ds) cells = put_loose gs ds (put_if_loose g d cells)

-- the men of the digits of all loose groups find their squares empty
abbrev pub are_loose_free : List GroupLine → List ℕ → List ℕ → Bool
are_loose_free [] ds cells = true
are_loose_free (g ∷ gs) [] cells = true
are_loose_free (g ∷ gs) (d ∷ ds) cells =
    is_free_if_loose g d cells && are_loose_free gs ds (put_if_loose g d cells)
