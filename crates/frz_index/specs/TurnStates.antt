-- Turn states: who is to move, and the target.
use Rattle.std.specs.Prelude.{ℕ, zero, suc, Option, None, Some, List, [], ◌∷◌, ◌==◌, if◌then◌else◌}
use Rattle.std.specs.List.{slice_get}
use Rattle.frz_board.specs.declared.man.Colour.{Colour}
use Rattle.frz_board.specs.declared.man.Colour.TheVariants.{White, Black}
use Rattle.frz_board.specs.Ranks.{is_passing_rank}
use Rattle.frz_sets.specs.Views.{GroupLine}
use Rattle.frz_sets.specs.Sets.{targets}

-- the index of the first x in the list, or the list's length if it has none
abbrev pub place_of : ℕ → List ℕ → ℕ
place_of x [] = 0
place_of x (y ∷ ys) = if x == y then 0 else suc (place_of x ys)

-- White to move is 0, Black to move is 1, and the targets follow in order
abbrev pub turn_among : List ℕ → Colour → Option ℕ → ℕ
turn_among ts c (Some t) = suc (suc (place_of t ts))
turn_among ts White None = 0
turn_among ts Black None = 1

-- the turn state of a position with this side to move and this target
abbrev pub turn_number : List GroupLine → Colour → Option ℕ → ℕ
turn_number gs c target = turn_among (targets gs) c target

-- who is to move where t is the target: Black where White's pawns pass over it, else White
abbrev pub mover_at_target : ℕ → Colour
mover_at_target t = if is_passing_rank White t then Black else White

abbrev pub target_state : Option ℕ → Colour × Option ℕ
target_state None = (White, None)
target_state (Some t) = (mover_at_target t, Some t)

-- the side to move and the target of a turn state
abbrev pub turn_in : List ℕ → ℕ → Colour × Option ℕ
turn_in ts zero = (White, None)
turn_in ts (suc zero) = (Black, None)
turn_in ts (suc (suc k)) = target_state (slice_get ts k)
