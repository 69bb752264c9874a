use Rattle.frz_plane_arms.proofs.LeadingKings.{arriving}
use Rattle.frz_plane_arms.proofs.leading.leading_to.Goals as goal

pub returns-clause-leading : goal.returns-clause-leading
returns-clause-leading c r p n k sound turn other board are then next a b la lb =
    arriving c.args.lines.now r p n k c.args.live.now c.args.live_after.now sound board are next
    c.args.turn turn c.args.to.now c.args.into c.counted.result c.counted.ensures a b la lb c.args.s
    c.arriving_freely.ensures.on_board other then c.arriving_freely.result
    c.arriving_freely.ensures.plane
