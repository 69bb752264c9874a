use Rattle.frz_prelude.proofs.Lemmas.{as_read}
use Rattle.frz_commands_line.specs.WayJobs.{way_at}
use Rattle.frz_commands_line.proofs.Later.{any_later}
use Rattle.frz_commands_line.proofs.way.play_from.Goals as goal

pub returns-in-Ok-clause-ran : goal.returns-in-Ok-clause-ran
returns-in-Ok-clause-ran g c =
    let player = c.args.player in
    let w = c.play_at.ensures.ran in (
      w.0,
      w.1,
      λ other. as_read (way_at player.opponent w.0 c.args.table.now player.side) _ _ _ _ _ _
          c.in-Ok.ensures.read c.as_bytes.ensures.value (w.2 other),
    )

pub returns-in-Err-clause-ran : goal.returns-in-Err-clause-ran
returns-in-Err-clause-ran g c =
    let player = c.args.player in
    let any = any_later (g.S.Store.files c.args.store.now) in (
      any.0,
      any.1,
      λ other. as_read (way_at player.opponent any.0 c.args.table.now player.side) _ _ _ _ _ _
          c.in-Err.ensures.read c.as_bytes.ensures.value (c.refuse_named.ensures _ _ _),
    )
