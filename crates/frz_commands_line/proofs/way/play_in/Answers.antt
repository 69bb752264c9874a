use Rattle.std.proofs.Common.{refl}
use Rattle.frz_store.specs.Told.{store_of, source_of, sink_of}
use Rattle.frz_table.specs.Opening.{contents_of}
use Rattle.frz_commands_line.specs.Later.{held_later}
use Rattle.frz_commands_line.specs.LineOf.{codes_later}
use Rattle.frz_commands_line.proofs.Later.{held_codes}
use Rattle.frz_commands_line.proofs.LineEndsWell.{line_ran}
use Rattle.frz_commands_line.proofs.SessionPlayed.{session_ran}
use Rattle.frz_commands_line.proofs.way.play_in.Goals as goal

pub returns-in-Codes-clause-ran : goal.returns-in-Codes-clause-ran
returns-in-Codes-clause-ran g c =
    let e = c.best_line-line.ensures in
    let new = c.best_line-line.new in
    let table = c.args.table.now in
    let side = c.args.player.side in
    let w = e.wrote in
    let held = held_codes (g.S.Store.files c.args.store.now) table side w.1 c.requires.carried
    c.requires.opens w.4 in (
      held.later,
      held.may,
      held.opens,
      λ other. rw c.in-Codes.is
          (line_ran c.one_line.ensures.there held.later table side c.args.p.now
          (store_of g.S.Store c.args.store.now) (store_of g.S.Store new.store) other
          (sink_of g.O.Sink c.args.out.now) (sink_of g.O.Sink new.out)
          (sink_of g.O.Sink c.end_of_line.new.out) c.args.steps.now new.steps
          e.quiet e.later c.best_line-line.result c.end_of_line.result e.outside
          (λ is. let same = e.untouched is in rw (same.0, same.1, same.2) refl) e.cause
          c.end_of_line.ensures (
            w.0,
            w.2,
            w.3,
            w.5 (codes_later (contents_of table) (held_later held.later table.name)
                side) held.same,
          )),
    )

pub returns-in-Input-clause-ran : goal.returns-in-Input-clause-ran
returns-in-Input-clause-ran g c =
    let e = c.play_session-session.ensures in
    let new = c.play_session-session.new in
    let table = c.args.table.now in
    let side = c.args.player.side in
    let w = e.played in
    let held = held_codes (g.S.Store.files c.args.store.now) table side w.5.0 c.requires.carried
    c.requires.opens w.5.1 in (
      held.later,
      held.may,
      held.opens,
      λ other. rw c.in-Input.is
          (session_ran c.one_session.ensures.there held.later table side c.args.p.now
          (store_of g.S.Store c.args.store.now) (store_of g.S.Store new.store)
          (source_of g.I.Source c.args.input.now) (source_of g.I.Source new.input)
          (sink_of g.O.Sink c.args.out.now) (sink_of g.O.Sink new.out)
          (sink_of g.O.Sink c.end_of_session.new.out) c.args.steps.now new.steps
          e.quiet e.later c.play_session-session.result c.end_of_session.result e.outside
          (λ is. let same = e.untouched is in rw (same.0, same.1, same.2, same.3) refl)
          e.cause e.input c.end_of_session.ensures (
            w.0,
            w.1,
            w.2,
            w.3,
            w.4,
            w.5.2 (codes_later (contents_of table)
                (held_later held.later table.name) side) held.same,
          )),
    )
