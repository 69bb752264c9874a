-- The legal moves of a position, with the codes that a table file keeps behind each.
use Rattle.std.specs.Prelude.{ℕ, List, map}
use Rattle.frz_board.specs.declared.man.Colour.TheVariants.{White, Black}
use Rattle.frz_board.specs.Boards.{Board}
use Rattle.frz_board.specs.Moving.{Step}
use Rattle.frz_fide.specs.Listing.{legal_moves_of}
use Rattle.frz_sets.specs.declared.exit.Value.{Value}
use Rattle.frz_sets.specs.Views.{RuleLines}
use Rattle.frz_arena.specs.declared.arm.Arm.{Arm}
use Rattle.frz_graph.specs.EntryCodes.{arm_code}
use Rattle.frz_game.specs.Games.{arm_at}
use Rattle.frz_table.specs.Opening.{Contents}
use Rattle.frz_check.specs.Kept.{kept_codes}
use Rattle.frz_commands_atlas.specs.declared.rows.Row.{Row}

-- a move with the codes of White and Black behind it: the entries of where it stays in the set, and
-- those of the value of an exit
abbrev pub row_by : (white black : List ℕ) → Arm Step ℕ Value → Row
row_by white black arm = record {
  arm = arm;
  white = arm_code White white arm;
  black = arm_code Black black arm;
}

-- the legal moves of the position, in move order; exits have these values
abbrev pub arms_of : RuleLines → (Board → Value) → Board → List (Arm Step ℕ Value)
arms_of rules value p = map (arm_at rules value p) (legal_moves_of p)

-- a row for each legal move of the position, by the codes in the bytes
abbrev pub rows_in : Contents → List ℕ → (Board → Value) → Board → List Row
rows_in contents bytes value p =
    map (row_by (kept_codes contents bytes White) (kept_codes contents bytes Black))
    (arms_of contents.rules value p)
