use Rattle.std.proofs.Common.{◌≡◌, ℕ, List, map, take}
use Rattle.frz_board.specs.declared.man.Colour.TheVariants.{White, Black}
use Rattle.frz_graph.specs.EntryCodes.{arm_code}
use Rattle.frz_commands_atlas.specs.MoveRows.{row_by}
use Rattle.frz_commands_atlas.proofs.rows.rows_with.Given as goal

abbrev pub invariant-loop-i : goal.invariant-loop-i
invariant-loop-i l = (w b : List ℕ) → l.white.items ≡ map (arm_code White w) l.arms
    → l.black.items ≡ map (arm_code Black b) l.arms
    → l.rows.items ≡ map (row_by w b) (take l.i l.arms)
