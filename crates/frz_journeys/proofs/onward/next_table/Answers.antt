use Rattle.std.proofs.Common.{◌≡◌, ◌∙◌, ap, map}
use Rattle.frz_sets.specs.declared.exit.Value.TheVariants.{Unknown}
use Rattle.frz_exits.specs.Books.{value_by}
use Rattle.frz_backs.specs.Loaded.{link_loaded}
use Rattle.frz_journeys.specs.Tables.{first_from, leant_on, where_unknown}
use Rattle.frz_journeys.proofs.Finding.{finds_same, lines_first}
use Rattle.frz_journeys.proofs.onward.next_table.Goals as goal

pub returns-in-Unknown : goal.returns-in-Unknown
returns-in-Unknown c =
    let table = link_loaded c.args.table.now in
    let tables = map link_loaded c.args.before.now in
    let q = c.args.q.now in
    let found = first_from 0 (leant_on table.leans tables) q in
    let silent : Unknown ≡ value_by table.rules q =
    c.in-Unknown.ensures ∙ ap (λ r. value_by r q) (c.new.ensures ∙ c.rules.ensures.rules) in
    finds_same c.args.before.now q found (where_unknown (value_by table.rules q) found)
    c.first_leant_on.result (ap (λ v. where_unknown v found) silent) c.first_leant_on.ensures

pub returns-in_default : goal.returns-in_default
returns-in_default c =
    let table = link_loaded c.args.table.now in
    let tables = map link_loaded c.args.before.now in
    let q = c.args.q.now in
    lines_first (value_by table.rules q) (first_from 0 (leant_on table.leans tables) q)
    (λ e. c.in_default.not-Unknown (c.value_on.ensures
    ∙ ap (λ r. value_by r q) (c.new.ensures ∙ c.rules.ensures.rules) ∙ e))
