use Rattle.std.proofs.Common.{subst, ◌∙◌}
use Rattle.frz_board.specs.Boards.{Board}
use Rattle.frz_store.specs.Told.{sink_of}
use Rattle.frz_answer.specs.Texts.{WroteText}
use Rattle.frz_repairs.specs.Repairs.{table_line}
use Rattle.frz_repairs.proofs.repairs.write_table_behind.Goals as goal

pub returns : goal.returns
returns g c =
    subst (λ (q : Board). WroteText (table_line q) c.write_table.result
    (sink_of g.O.Sink c.args.out.now) (sink_of g.O.Sink c.write_table.new.out))
    (c.as_position.ensures ∙ c.after.ensures.position) c.write_table.ensures
