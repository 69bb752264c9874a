use Rattle.std.proofs.Common.{List, map, subst}
use Rattle.std.specs.String.{string_bytes}
use Rattle.frz_store.specs.Told.{source_of, sink_of}
use Rattle.frz_atlas.specs.BackTable.{BackTable}
use Rattle.frz_atlas.specs.FileOn.{loaded_back}
use Rattle.frz_atlas.specs.Loaded.{link_loaded}
use Rattle.frz_atlas_prelude.proofs.Lemmas.{small_unread}
use Rattle.frz_commands_inquiry.specs.Ending.{RunsInquiry}
use Rattle.frz_commands_inquiry.specs.Places.{reply_to}
use Rattle.frz_commands_inquiry.proofs.Running.{asked_ran, few_loaded}
use Rattle.frz_commands_inquiry.proofs.Unread.{unread_ran}
use Rattle.frz_commands_inquiry.proofs.asking.ask_at.Goals as goal

pub returns-in-Ok : goal.returns-in-Ok
returns-in-Ok g c =
    let e = c.in-Ok.ensures in
    asked_ran c.args.table.now (map string_bytes c.args.behind.now) c.requires.apart _ _
    c.args.steps.now e.quiet e.cause c.in-Ok.loaded e.loaded _ _ _ _
    c.inquire.result
    (subst (λ (l : List BackTable). RunsInquiry (reply_to (link_loaded c.in-Ok.loaded.table)
    (map loaded_back l)) c.inquire.result (source_of g.I.Source c.args.input.now)
    (source_of g.I.Source c.inquire.new.input) (sink_of g.O.Sink c.args.out.now)
    (sink_of g.O.Sink c.inquire.new.out)) c.deref.ensures.value c.inquire.ensures)

pub end_at-requires : goal.end_at-requires
end_at-requires g c =
    small_unread _ c.requires.few _ _ c.in-Err.fault c.args.table.now c.in-Err.ensures.refused

pub returns-in-Err : goal.returns-in-Err
returns-in-Err g c =
    let e = c.in-Err.ensures in
    unread_ran c.args.table.now (map string_bytes c.args.behind.now) c.requires.apart _ _
    c.args.steps.now e.quiet (source_of g.I.Source c.args.input.now)
    (sink_of g.O.Sink c.args.out.now) c.in-Err.fault e.refused _ _ e.cause c.end_at.ensures

pub inquire-requires : goal.inquire-requires
inquire-requires g c = record {
  few = few_loaded c.args.table.now (map string_bytes c.args.behind.now) c.requires.few _ _
      c.in-Ok.loaded c.in-Ok.ensures.loaded _ c.deref.ensures.value;
}
