use Rattle.std.specs.Prelude.{map}
use Rattle.frz_store.specs.Told.{sink_of}
use Rattle.frz_answer.proofs.Lemmas.{failed_first, gave_up, wrote_next}
use Rattle.frz_backs.specs.FileOn.{loaded_back}
use Rattle.frz_commands_why.specs.Deciders.{decider_of}
use Rattle.frz_commands_why.proofs.Told.{left_wrote}
use Rattle.frz_commands_why.proofs.telling.write_left_from.Goals as goal

pub returns-in_err-write_exit : goal.returns-in_err-write_exit
returns-in_err-write_exit g c =
    let deciding = c.args.deciding.now in
    left_wrote (decider_of deciding.leans deciding.numbers.now deciding.rules.now
    (map loaded_back deciding.backs.now)) c.args.value c.args.p.now c.args.mv c.after-q.result
    c.as_position.result.now c.decider-decider.result c.after-q.ensures.position
    c.as_position.ensures c.decider-decider.ensures c.from_residual.result
    (sink_of g.O.Sink c.args.out.now) (sink_of g.O.Sink c.write_exit.new.out)
    (gave_up c.from_residual.ensures.0 (failed_first _ c.in_err-write_exit.ensures.failed))

pub returns : goal.returns
returns g c =
    let deciding = c.args.deciding.now in
    left_wrote (decider_of deciding.leans deciding.numbers.now deciding.rules.now
    (map loaded_back deciding.backs.now)) c.args.value c.args.p.now c.args.mv c.after-q.result
    c.as_position.result.now c.decider-decider.result c.after-q.ensures.position
    c.as_position.ensures c.decider-decider.ensures c.write_lack.result
    (sink_of g.O.Sink c.args.out.now) (sink_of g.O.Sink c.write_lack.new.out)
    (wrote_next c.in_ok-write_exit.ensures.ok c.write_lack.ensures)
