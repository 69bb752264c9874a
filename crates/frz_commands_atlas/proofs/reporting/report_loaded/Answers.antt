use Rattle.std.specs.Prelude.{map}
use Rattle.std.proofs.Common.{◌∙◌, ap}
use Rattle.frz_graph.specs.EntryCodes.{of_side}
use Rattle.frz_store.specs.Told.{sink_of}
use Rattle.frz_atlas.specs.FileOn.{loaded_back}
use Rattle.frz_commands_atlas.specs.FirstExits.{WritesFirsts}
use Rattle.frz_commands_atlas.proofs.ValuesOver.{by_lines, by_tables}
use Rattle.frz_commands_atlas.proofs.reporting.report_loaded.Goals as goal

pub returns-in-Atlas-clause-wrote : goal.returns-in-Atlas-clause-wrote
returns-in-Atlas-clause-wrote g c =
    let given = c.args.loaded.now in
    by_tables (λ value. WritesFirsts given.table.table.rules value
    (λ side. of_side side given.table.white.items given.table.black.items) c.report_by.result
    (sink_of g.O.Sink c.args.out.now) (sink_of g.O.Sink c.report_by.new.out))
    given.table.table.kind c.new.result.rules.now given.table.table.rules
    (map loaded_back given.backs.items) (map loaded_back c.new.result.backs.now) c.in-Atlas.ensures
    (c.new.ensures.rules ∙ c.rules-rules.ensures.rules)
    (ap (map loaded_back) (c.new.ensures.backs ∙ c.deref.ensures.value)) c.report_by.ensures.wrote

pub returns-in_default-clause-wrote : goal.returns-in_default-clause-wrote
returns-in_default-clause-wrote g c =
    let given = c.args.loaded.now in
    by_lines (λ value. WritesFirsts given.table.table.rules value
    (λ side. of_side side given.table.white.items given.table.black.items)
    c.report_by-in_default.result (sink_of g.O.Sink c.args.out.now)
    (sink_of g.O.Sink c.report_by-in_default.new.out)) given.table.table.kind
    c.new-in_default.result.rules.now given.table.table.rules (map loaded_back given.backs.items)
    (λ e. c.in_default.not-Atlas (c.kind.ensures ∙ e))
    (c.new-in_default.ensures ∙ c.rules-rules.ensures.rules)
    c.report_by-in_default.ensures.wrote
