use Rattle.std.proofs.Common.{sym, ap, ◌∙◌}
use Rattle.std.specs.Prelude.{map}
use Rattle.std.proofs.lemmas.List.{take_all}
use Rattle.frz_board.specs.declared.man.Colour.TheVariants.{White, Black}
use Rattle.frz_graph.specs.EntryCodes.{arm_code}
use Rattle.frz_commands_atlas.specs.MoveRows.{row_by}
use Rattle.frz_commands_atlas.proofs.rows.rows_with.Goals as goal

pub returns : goal.returns
returns c = λ w b whites blacks.
    let are = c.as_slice-arms.ensures.value in
    c.loop-i.invariant w b (whites ∙ ap (map (arm_code White w)) (sym are))
    (blacks ∙ ap (map (arm_code Black b)) (sym are))
    ∙ ap (map (row_by w b)) (take_all c.loop-i.i _ c.loop-i-test.false ∙ are)
