-- How good a move is for its mover, and moves in order from the best.
use Rattle.std.specs.Prelude.{ℕ, ◌+◌, ◌-◌, ◌==◌, Bool, true, false, List, if◌then◌else◌}
use Rattle.std.specs.List.Sorted.{IsNonDecreasingBy, IsPermutation, IsStableByKey}
use Rattle.std.specs.Ordering.{nat_cmp}
use Rattle.frz_board.specs.declared.man.Colour.{Colour}
use Rattle.frz_board.specs.declared.man.Colour.TheVariants.{White, Black}
use Rattle.frz_arena.specs.Codes.{is_win}
use Rattle.frz_commands_atlas.specs.declared.rows.Row.{Row}
use Rattle.frz_commands_atlas.specs.declared.ranking.TheConstants.{MIDDLE, LATEST}

-- where neither wins: the mover alone holds, both hold, neither does, the opponent alone does
abbrev pub holding_rank : (own other : Bool) → ℕ
holding_rank true false = 0
holding_rank true true = 1
holding_rank false false = 2
holding_rank false true = 3

-- the rank of a move by the codes that the mover and the opponent have behind it; the lower, the
-- better. First come wins of the mover, the shortest first, and last those of the opponent, the
-- longest first
abbrev pub rank_of : (own other : ℕ) → ℕ
rank_of own other =
    if is_win own then own else
    (if is_win other then LATEST - other else MIDDLE + holding_rank (own == 1) (other == 1))

abbrev pub rank_for : (mover : Colour) → Row → ℕ
rank_for White row = rank_of row.white row.black
rank_for Black row = rank_of row.black row.white

-- the same elements in order of rank, and those of one rank in the order that they had
pub record IsRanked {X : Type 0} (rank : X → ℕ) (xs ranked : List X) : Type 0 where
  pub same : IsPermutation xs ranked
  pub rising : IsNonDecreasingBy rank ranked
  pub level : IsStableByKey rank nat_cmp xs ranked
