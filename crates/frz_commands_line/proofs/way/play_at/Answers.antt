use Rattle.frz_commands_line.proofs.Later.{any_later, later_before}
use Rattle.frz_commands_line.proofs.TableOpened.{opened_ran, opens_still, refused_ran}
use Rattle.frz_commands_line.proofs.WayAnswered.{some_told}
use Rattle.frz_commands_line.proofs.way.play_at.Goals as goal

pub play_in-requires-clause-opens : goal.play_in-requires-clause-opens
play_in-requires-clause-opens g c =
    let e = c.in-Ok.ensures in
    opens_still c.in-Ok.table e.quiet.unwritten.files e.name e.may_open

pub returns-in-Ok-clause-ran : goal.returns-in-Ok-clause-ran
returns-in-Ok-clause-ran g c =
    let e = c.in-Ok.ensures in
    let w = c.play_in.ensures.ran in
    let may = later_before w.0 e.quiet.unwritten.files w.1 in (
      w.0,
      may,
      λ other. opened_ran c.args.player.opponent w.0 c.args.table.now c.args.player.side
          c.args.p.now e.quiet c.in-Ok.table
          (record { faults = e.causes.fine; wants = e.causes.wants_fine }) e.name may w.2 e.asked
          e.calls (w.3 other),
    )

pub returns-in-Err-clause-ran : goal.returns-in-Err-clause-ran
returns-in-Err-clause-ran g c =
    let e = c.in-Err.ensures in
    let opponent = c.args.player.opponent in
    let any = any_later (g.S.Store.files c.args.store.now) in (
      any.0,
      any.1,
      λ other. refused_ran opponent any.0 c.args.table.now c.args.player.side c.args.p.now e.quiet
          c.in-Err.fault
          (some_told c.one_line.ensures.there c.one_session.ensures.there opponent) e.causes
          e.may_refuse (rw c.from.ensures at c.end.ensures),
    )
