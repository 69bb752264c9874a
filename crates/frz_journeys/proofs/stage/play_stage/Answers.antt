use Rattle.std.proofs.Common.{map, refl}
use Rattle.frz_store.specs.Told.{source_of, sink_of}
use Rattle.frz_backs.specs.Loaded.{link_loaded}
use Rattle.frz_ways.specs.PlayLoaded.{IsSettled}
use Rattle.frz_ways.specs.SessionFaults.{InputCause}
use Rattle.frz_ways.specs.WayEnds.{IsFinishOf}
use Rattle.frz_ways.proofs.Lemmas.{wrote_after}
use Rattle.frz_journeys.specs.JourneyTexts.{place_line}
use Rattle.frz_journeys.specs.Onward.{LeftLegally}
use Rattle.frz_journeys.specs.Tables.{arena_over, codes_of}
use Rattle.frz_journeys.proofs.StageWritten.{by_output, line_failed}
use Rattle.frz_journeys.proofs.stage.play_stage.Goals as goal

pub returns-in_err-write_place-clause-played : goal.returns-in_err-write_place-clause-played
returns-in_err-write_place-clause-played g c =
    let side = c.args.player.side in
    let table = link_loaded c.args.table.now in
    line_failed (arena_over (map link_loaded c.args.before.now) table) c.args.player.opponent side
    (codes_of side table) c.args.start c.args.place c.args.reader.now c.from_residual.result
    (source_of g.I.Source c.args.input.now) (sink_of g.O.Sink c.args.out.now)
    (sink_of g.O.Sink c.write_place.new.out) c.args.steps.now c.from_residual.ensures.1
    c.in_err-write_place.ensures.failed

pub returns-in_err-write_place-clause-left : goal.returns-in_err-write_place-clause-left
returns-in_err-write_place-clause-left g c =
    by_output (LeftLegally c.args.table.now.table.rules.groups) c.from_residual.result
    c.from_residual.ensures.1 tt

pub returns-in_err-write_place-clause-kind : goal.returns-in_err-write_place-clause-kind
returns-in_err-write_place-clause-kind g c =
    by_output (λ r. IsFinishOf r c.args.player.opponent) c.from_residual.result
    c.from_residual.ensures.1 tt

pub returns-in_err-write_place-clause-settled : goal.returns-in_err-write_place-clause-settled
returns-in_err-write_place-clause-settled g c =
    by_output (λ r. IsSettled r) c.from_residual.result c.from_residual.ensures.1 tt

pub returns-in_err-write_place-clause-input : goal.returns-in_err-write_place-clause-input
returns-in_err-write_place-clause-input g c =
    let source = source_of g.I.Source c.args.input.now in
    by_output (λ r. InputCause r source source) c.from_residual.result c.from_residual.ensures.1 refl

pub returns-clause-played : goal.returns-clause-played
returns-clause-played g c =
    let w = c.play_at.ensures.played in (
      w.0,
      w.1,
      w.2,
      wrote_after (place_line c.args.place) w.0 c.play_at.result (sink_of g.O.Sink c.args.out.now)
          (sink_of g.O.Sink c.write_place.new.out) (sink_of g.O.Sink c.play_at.new.out)
          c.in_ok-write_place.ensures.ok w.3,
      w.4,
      w.5,
      w.6,
    )
