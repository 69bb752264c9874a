use Rattle.std.proofs.Common.{arith, ap}
use Rattle.std.specs.Prelude.{map}
use Rattle.std.specs.String.{string_bytes}
use Rattle.frz_store.specs.Told.{store_of, source_of, sink_of}
use Rattle.frz_atlas_prelude.proofs.Lemmas.{small_unread}
use Rattle.frz_commands_line.specs.WayJobs.{input_with}
use Rattle.frz_commands_journeys.proofs.JourneyArrives.{arrived_near, loaded_ran}
use Rattle.frz_commands_journeys.proofs.TablesUnread.{unread_ran}
use Rattle.frz_commands_journeys.proofs.journey.play_at.Goals as goal

pub end_of_journey-requires : goal.end_of_journey-requires
end_of_journey-requires g c =
    let names = c.args.names.now in
    let j = c.play_journey-arrival.ensures in
    arrived_near c.one_journey.ensures.there c.args.player names.table.now
    (map string_bytes names.behind.now) c.args.p.now c.requires.few _ _ c.in-Ok.loaded
    c.in-Ok.ensures.loaded _ _ _ _ _ _ c.play_journey-arrival.result j.outside _
    c.deref.ensures.value j.played

pub returns-in-Ok-clause-ran : goal.returns-in-Ok-clause-ran
returns-in-Ok-clause-ran g c = λ other.
    let names = c.args.names.now in
    let l = c.in-Ok.ensures in
    let j = c.play_journey-arrival.ensures in
    loaded_ran c.one_journey.ensures.there c.args.player names.table.now
    (map string_bytes names.behind.now) c.args.p.now c.requires.few
    (store_of g.S.Store c.args.store.now) _ c.in-Ok.loaded l.loaded
    (source_of g.I.Source c.args.input.now)
    (source_of g.I.Source c.play_journey-arrival.new.input) (sink_of g.O.Sink c.args.out.now)
    (sink_of g.O.Sink c.play_journey-arrival.new.out) c.args.steps.now
    c.play_journey-arrival.new.steps c.play_journey-arrival.result j.outside _
    c.deref.ensures.value j.played
    c.requires.apart l.quiet l.cause j.later c.requires.silent
    (λ is.
    let same = j.untouched is in
    (ap (source_of g.I.Source) same.0, ap (sink_of g.O.Sink) same.1, same.2))
    j.kind j.input c.end_of_journey.result _ c.end_of_journey.ensures other

pub end_at-requires : goal.end_at-requires
end_at-requires g c =
    small_unread (map string_bytes c.args.names.now.behind.now) c.requires.few _ _ c.in-Err.fault
    c.args.names.now.table.now c.in-Err.ensures.refused

pub returns-in-Err-clause-ran : goal.returns-in-Err-clause-ran
returns-in-Err-clause-ran g c = λ other.
    let names = c.args.names.now in
    let e = c.in-Err.ensures in
    unread_ran c.one_journey.ensures.there c.args.player names.table.now
    (map string_bytes names.behind.now) c.args.p.now c.requires.apart _ _ _ _ e.quiet (omega arith)
    (omega arith) (input_with c.args.player.opponent (source_of g.I.Source c.args.input.now) other) _
    c.in-Err.fault e.refused _ _ e.cause c.end_at.ensures
