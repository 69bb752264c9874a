use Rattle.std.proofs.Common.{◌≡◌, ◌<◌, ◌+◌, ◌^◌, arith, length, map, refl, take}
use Rattle.std.proofs.lemmas.List.{length-take}
use Rattle.std.specs.Prelude.{slice_get, Some}
use Rattle.std.proofs.lemmas.Option.{slice_get_read}
use Rattle.frz_store.specs.Told.{source_of, sink_of}
use Rattle.frz_backs.specs.Links.{backs_of, value_over}
use Rattle.frz_backs.specs.Loaded.{link_loaded}
use Rattle.frz_journeys.specs.Tables.{codes_of}
use Rattle.frz_journeys.proofs.Entering.{entry_within, number_within}
use Rattle.frz_journeys.proofs.ToldOn.{told_here, told_on}
use Rattle.frz_journeys.proofs.journey.+play_on.Goals as goal

pub play_on-requires : goal.play_on-requires
play_on-requires g t c κs within =
    let table = c.args.table.now in
    let before = c.args.before.now in
    let finish = c.play_stage-finish.result in
    let entry = c.in-Some.field-0 in
    let inside = entry_within before table finish entry c.in-Some.ensures in
    let long = length-take entry.place before in
    let least = c.decreases in
    let falls : length (take entry.place before) < t = omega (arith, inside, long, least) in
    let there : slice_get before entry.place ≡ Some c.index-before-at.result =
    slice_get_read before (length before) entry.place c.index-before-at.result refl inside
    c.index-before-at.is in
    let small : entry.place + 1 < 2 ^ 64 = omega (arith, inside) in (
      falls,
      (
        within.0,
        (
          within.1.0,
          (
            within.1.1,
            (
              number_within before table finish entry c.in-Some.ensures c.index-before-at.result
                  there,
              (
                small,
                (
                  c.play_stage-finish.ensures.still_ended,
                  (let a = c.play_stage-finish.ensures.no_more in
                      let b = c.requires.few in omega (arith, a, b)),
                ),
              ),
            ),
          ),
        ),
      ),
    )

pub returns-in-None-clause-played : goal.returns-in-None-clause-played
returns-in-None-clause-played g t c =
    let table = c.args.table.now in
    let before = c.args.before.now in
    let side = c.args.player.side in
    let opponent = c.args.player.opponent in
    let finish = c.play_stage-finish.result in
    let source = source_of g.I.Source c.args.input.now in
    let left = source_of g.I.Source c.play_stage-finish.new.input in
    let out = sink_of g.O.Sink c.args.out.now in
    let taken = sink_of g.O.Sink c.play_stage-finish.new.out in
    told_here opponent side before table c.args.place c.args.start
    (λ input plies end last w. c.ways_are_games.ensures.game table.table.rules
    (value_over (link_loaded table).leans table.table.rules (backs_of (map link_loaded before)))
    opponent side (λ k. codes_of side (link_loaded table)) c.args.start input plies end last w)
    c.args.reader.now c.play_stage-finish.new.reader finish c.arrived.result source left out taken
    c.args.steps.now c.play_stage-finish.new.steps c.arrived.ensures c.in-None.ensures
    c.play_stage-finish.ensures.settled c.play_stage-finish.ensures.kind
    c.play_stage-finish.ensures.played

pub returns-in-Some-clause-played : goal.returns-in-Some-clause-played
returns-in-Some-clause-played g t c =
    let table = c.args.table.now in
    let before = c.args.before.now in
    let side = c.args.player.side in
    let opponent = c.args.player.opponent in
    let finish = c.play_stage-finish.result in
    let entry = c.in-Some.field-0 in
    let source = source_of g.I.Source c.args.input.now in
    let mid = source_of g.I.Source c.play_stage-finish.new.input in
    let left = source_of g.I.Source c.play_on.new.input in
    let out = sink_of g.O.Sink c.args.out.now in
    let between = sink_of g.O.Sink c.play_stage-finish.new.out in
    let taken = sink_of g.O.Sink c.play_on.new.out in
    told_on opponent side before table c.args.place c.args.start
    (λ input plies end last w. c.ways_are_games.ensures.game table.table.rules
    (value_over (link_loaded table).leans table.table.rules (backs_of (map link_loaded before)))
    opponent side (λ k. codes_of side (link_loaded table)) c.args.start input plies end last w)
    c.args.reader.now c.play_stage-finish.new.reader c.play_on.new.reader source mid left out between
    taken c.args.steps.now c.play_stage-finish.new.steps c.play_on.new.steps entry
    c.index-before-at.result
    (slice_get_read before (length before) entry.place c.index-before-at.result refl
    (entry_within before table finish entry c.in-Some.ensures) c.index-before-at.is) c.play_on.result finish c.in-Some.ensures
    c.play_stage-finish.ensures.played c.play_on.ensures.played
