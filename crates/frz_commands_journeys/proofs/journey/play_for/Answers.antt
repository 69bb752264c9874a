use Rattle.std.proofs.Common.{refl, arith}
use Rattle.std.specs.Prelude.{map}
use Rattle.std.specs.String.{string_bytes}
use Rattle.frz_board.specs.declared.man.Colour.{Colour}
use Rattle.frz_fen.specs.Reading.{fen_of}
use Rattle.frz_store.specs.Told.{store_of, source_of}
use Rattle.frz_answer.specs.World.{world}
use Rattle.frz_answer.proofs.Lemmas.{as_given, fine_same, quiet_same, said}
use Rattle.frz_prelude.specs.Positions.{on_position}
use Rattle.frz_commands_line.proofs.Lemmas.{as_side}
use Rattle.frz_commands_line.specs.WayJobs.{input_with}
use Rattle.frz_commands_journeys.specs.Journeying.{journeying_at}
use Rattle.frz_commands_journeys.proofs.journey.play_for.Goals as goal

pub returns-in-Some-clause-ran : goal.returns-in-Some-clause-ran
returns-in-Some-clause-ran g c = λ other.
    let names = c.args.names.now in
    as_side _ _ _
    (λ (x : Colour). on_position (journeying_at (record { side = x; opponent = c.args.opponent })
    names.table.now (map string_bytes names.behind.now)) (fen_of names.fen.now)) _ _
    c.in-Some.ensures (c.play_from.ensures.ran other)

pub returns-in-None-clause-ran : goal.returns-in-None-clause-ran
returns-in-None-clause-ran g c = λ other.
    let names = c.args.names.now in
    as_side _ _ _
    (λ (x : Colour). on_position (journeying_at (record { side = x; opponent = c.args.opponent })
    names.table.now (map string_bytes names.behind.now)) (fen_of names.fen.now)) _ _
    c.in-None.ensures
    (said _ _ _ _ _ (world (store_of g.S.Store c.args.store.now)
    (input_with c.args.opponent (source_of g.I.Source c.args.input.now) other) _ _) _ (quiet_same _)
    (fine_same _) refl c.refuse_side.ensures
    (λ files left agrees. record {
      found = as_given _ files left _ agrees;
      answer = refl;
      costs = record { steps = omega arith; calls = omega arith; asked = omega arith };
    }))
