use Rattle.frz_plane_exits.proofs.LivePairs.{members}
use Rattle.frz_plane_exits.proofs.exits.exits_of.Goals as goal

pub all_exits-requires-clause-live : goal.all_exits-requires-clause-live
all_exits-requires-clause-live g c =
    members c.args.configurations.now.rules.now c.args.set.now c.args.p.now c.args.live.now
    c.requires.sound c.requires.set c.requires.live
