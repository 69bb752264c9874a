use Rattle.frz_plane_arms.proofs.LeadingKings.{quietly}
use Rattle.frz_plane_arms.proofs.leading.leading_quietly.Goals as goal

pub returns : goal.returns
returns c r p n k sound turn board are then next a b la lb =
    quietly c.args.lines.now r p n k c.args.live.now c.args.live_after.now sound board are next
    c.args.turn turn c.args.to.now c.args.into c.counted.result c.counted.ensures a b la lb then
    c.stepping_freely.result c.stepping_freely.ensures
