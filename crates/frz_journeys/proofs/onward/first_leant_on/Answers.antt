use Rattle.std.proofs.Common.{◌∙◌, ap, map}
use Rattle.frz_backs.specs.Loaded.{leans_as, link_loaded}
use Rattle.frz_journeys.specs.Tables.{first_from, leant_on}
use Rattle.frz_journeys.proofs.Finding.{finds_same, leans_on_none}
use Rattle.frz_journeys.proofs.onward.first_leant_on.Goals as goal

pub returns-in-Atlas : goal.returns-in-Atlas
returns-in-Atlas c =
    let tables = map link_loaded c.args.before.now in
    finds_same c.args.before.now c.args.q.now _ _ c.first_holding.result
    (ap (λ kind. first_from 0 (leant_on (leans_as kind) tables) c.args.q.now) c.in-Atlas.ensures)
    c.first_holding.ensures

pub returns-in_default : goal.returns-in_default
returns-in_default c =
    leans_on_none c.args.table.now.table.kind (map link_loaded c.args.before.now) c.args.q.now
    (λ e. c.in_default.not-Atlas (c.kind.ensures ∙ e))
