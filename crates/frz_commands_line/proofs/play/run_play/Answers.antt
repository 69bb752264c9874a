use Rattle.frz_store.specs.Told.{source_of}
use Rattle.frz_commands_line.proofs.play.run_play.Goals as goal

pub returns-clause-ran : goal.returns-clause-ran
returns-clause-ran g c =
    let w = c.run_way.ensures.ran in
    (w.0, w.1, w.2 (source_of g.I.Source c.args.input.now))
