use Rattle.frz_store.specs.Told.{store_of, sink_of}
use Rattle.frz_answer.specs.World.{spent_by}
use Rattle.frz_table.specs.Tables.{table_size}
use Rattle.frz_ways.specs.Kept.{told_codes}
use Rattle.frz_ways.proofs.LineOfWay.{line_cause, line_told, outside_line, outside_way}
use Rattle.frz_ways.proofs.best.best_line.Goals as goal

pub returns-clause-outside : goal.returns-clause-outside
returns-clause-outside g c =
    let is = c.line_answer.ensures in
    let out = c.play_from-answer.ensures.outside in
    (λ e. out.0 (outside_way is e), λ none. outside_line is (out.1 none))

pub returns-clause-untouched : goal.returns-clause-untouched
returns-clause-untouched g c = λ e.
    let u = c.play_from-answer.ensures.untouched (outside_way c.line_answer.ensures e) in
    (u.0, u.2, u.3)

pub returns-clause-wrote : goal.returns-clause-wrote
returns-clause-wrote g c =
    let table = c.args.table.now in
    let old = c.args.store.now in
    let new = c.play_from-answer.new.store in
    line_told (told_codes table c.args.side (g.S.Store.files old)) (table_size table) table.rules
    c.args.side c.args.p.now c.line_answer.result _ _ (sink_of g.O.Sink c.args.out.now)
    (sink_of g.O.Sink c.play_from-answer.new.out)
    (spent_by (store_of g.S.Store old) c.args.steps.now)
    (spent_by (store_of g.S.Store new) c.play_from-answer.new.steps)
    c.line_answer.ensures c.play_from-answer.ensures.played

pub returns-clause-cause : goal.returns-clause-cause
returns-clause-cause g c =
    line_cause c.line_answer.result (store_of g.S.Store c.args.store.now)
    (store_of g.S.Store c.play_from-answer.new.store) c.line_answer.ensures
    c.play_from-answer.ensures.cause
