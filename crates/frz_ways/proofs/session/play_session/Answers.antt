use Rattle.frz_store.specs.Told.{store_of, source_of, sink_of}
use Rattle.frz_answer.specs.World.{spent_by}
use Rattle.frz_table.specs.Tables.{table_size}
use Rattle.frz_ways.specs.Kept.{told_codes}
use Rattle.frz_ways.proofs.SessionOfWay.{outside_session, outside_way, session_cause, session_input, session_told}
use Rattle.frz_ways.proofs.session.play_session.Goals as goal

pub returns-clause-outside : goal.returns-clause-outside
returns-clause-outside g c =
    let is = c.session_answer.ensures in
    let out = c.play_from-answer.ensures.outside in
    (λ e. out.0 (outside_way is e), λ none. outside_session is (out.1 none))

pub returns-clause-untouched : goal.returns-clause-untouched
returns-clause-untouched g c = λ e.
    c.play_from-answer.ensures.untouched (outside_way c.session_answer.ensures e)

pub returns-clause-played : goal.returns-clause-played
returns-clause-played g c =
    let table = c.args.table.now in
    let old = c.args.store.now in
    let new = c.play_from-answer.new.store in
    session_told (told_codes table c.args.side (g.S.Store.files old)) (table_size table) table.rules
    c.args.side c.args.p.now c.session_answer.result (source_of g.I.Source c.args.input.now)
    (source_of g.I.Source c.play_from-answer.new.input) (sink_of g.O.Sink c.args.out.now)
    (sink_of g.O.Sink c.play_from-answer.new.out)
    (spent_by (store_of g.S.Store old) c.args.steps.now)
    (spent_by (store_of g.S.Store new) c.play_from-answer.new.steps)
    c.session_answer.ensures c.play_from-answer.ensures.played

pub returns-clause-cause : goal.returns-clause-cause
returns-clause-cause g c =
    session_cause c.session_answer.result (store_of g.S.Store c.args.store.now)
    (store_of g.S.Store c.play_from-answer.new.store) c.session_answer.ensures
    c.play_from-answer.ensures.cause

pub returns-clause-input : goal.returns-clause-input
returns-clause-input g c =
    session_input c.session_answer.result (source_of g.I.Source c.args.input.now)
    (source_of g.I.Source c.play_from-answer.new.input) c.session_answer.ensures
    c.play_from-answer.ensures.input
