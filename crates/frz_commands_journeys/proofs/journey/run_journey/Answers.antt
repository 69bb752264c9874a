use Rattle.std.specs.Prelude.{map}
use Rattle.std.specs.String.{string_bytes}
use Rattle.frz_store.specs.Told.{store_of, source_of}
use Rattle.frz_atlas_prelude.proofs.Lemmas.{ran_asked, ran_unasked}
use Rattle.frz_commands_line.specs.WayJobs.{input_with}
use Rattle.frz_commands_journeys.specs.Journeying.{journeying_named}
use Rattle.frz_commands_journeys.proofs.journey.run_journey.Goals as goal

pub returns-in-Ok-clause-ran : goal.returns-in-Ok-clause-ran
returns-in-Ok-clause-ran g c = λ other.
    ran_asked 0 (journeying_named c.args.opponent) (map string_bytes c.args.words.now) _ _ _ _ c.in-Ok.ensures.named
    (c.play_for.ensures.ran other)

pub returns-in-Err-clause-ran : goal.returns-in-Err-clause-ran
returns-in-Err-clause-ran g c = λ other.
    ran_unasked 0 (journeying_named c.args.opponent) (map string_bytes c.args.words.now) _ _ _ c.in-Err.why
    c.in-Err.ensures.refused
    (c.refuse.ensures (store_of g.S.Store c.args.store.now)
    (input_with c.args.opponent (source_of g.I.Source c.args.input.now) other) _)
