use Rattle.std.proofs.Common.{List, ℕ, subst}
use Rattle.frz_board.specs.declared.man.Colour.{Colour}
use Rattle.frz_exits.specs.Books.{value_by}
use Rattle.frz_graph.specs.EntryCodes.{of_side}
use Rattle.frz_sets.specs.Views.{RuleLines}
use Rattle.frz_store.specs.Told.{sink_of}
use Rattle.frz_report.specs.Reports.{WritesReport}
use Rattle.frz_report.proofs.reporting.report_codes.Goals as goal

pub returns-clause-wrote : goal.returns-clause-wrote
returns-clause-wrote g c =
    let codes : Colour → List ℕ = λ side. of_side side c.args.white.now c.args.black.now in
    let old = sink_of g.O.Sink c.args.out.now in
    let new = sink_of g.O.Sink c.write_report.new.out in
    subst (λ (r : RuleLines). WritesReport r (value_by r) codes c.write_report.result old new)
    c.rules-rules.ensures.rules
    (subst (λ (r : RuleLines). WritesReport c.rules-rules.result.now (λ q. value_by r q) codes
    c.write_report.result old new) c.new-book.ensures c.write_report.ensures.wrote)
