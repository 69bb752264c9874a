use Rattle.std.proofs.Common.{refl, arith}
use Rattle.frz_fen.specs.Reading.{fen_of}
use Rattle.frz_store.specs.Told.{store_of, source_of}
use Rattle.frz_answer.specs.World.{world}
use Rattle.frz_answer.proofs.Lemmas.{as_given, as_taken, fine_same, quiet_same, said}
use Rattle.frz_prelude.specs.Positions.{on_position}
use Rattle.frz_commands_line.specs.WayJobs.{input_with, way_at, way_named}
use Rattle.frz_commands_line.proofs.Lawful.{as_side}
use Rattle.frz_commands_line.proofs.Later.{any_later}
use Rattle.frz_commands_line.proofs.way.run_way.Goals as goal

pub returns-in_default-clause-ran : goal.returns-in_default-clause-ran
returns-in_default-clause-ran g c =
    let any = any_later (g.S.Store.files c.args.store.now) in (
      any.0,
      any.1,
      λ other. as_taken _ _ _ (way_named c.args.opponent any.0) _ _ c.in_default.ensures
          (c.refuse.ensures (store_of g.S.Store c.args.store.now)
          (input_with c.args.opponent (source_of g.I.Source c.args.input.now) other) _),
    )

pub returns-in_default-read_side-clause-ran : goal.returns-in_default-read_side-clause-ran
returns-in_default-read_side-clause-ran g c =
    let any = any_later (g.S.Store.files c.args.store.now) in
    let opponent = c.args.opponent in (
      any.0,
      any.1,
      λ other. as_taken _ _ _ (way_named opponent any.0) _ _ c.in-Some.ensures
          (as_side _ _ _
          (λ x. on_position (way_at opponent any.0 c.in-Some.table.now x)
          (fen_of c.in-Some.fen.now)) _ _ c.in_default-read_side.ensures
          (said _ _ _ _ _ (world (store_of g.S.Store c.args.store.now)
          (input_with opponent (source_of g.I.Source c.args.input.now) other) _ _) _ (quiet_same _)
          (fine_same _) refl c.refuse_side.ensures
          (λ files left agrees. record {
            found = as_given _ files left _ agrees;
            answer = refl;
            costs = record { steps = omega arith; calls = omega arith; asked = omega arith };
          }))),
    )
