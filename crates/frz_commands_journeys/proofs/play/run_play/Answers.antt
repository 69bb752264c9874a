use Rattle.frz_store.specs.Told.{source_of}
use Rattle.frz_commands_journeys.proofs.play.run_play.Goals as goal

pub returns-clause-ran : goal.returns-clause-ran
returns-clause-ran g c = c.run_journey.ensures.ran (source_of g.I.Source c.args.input.now)
