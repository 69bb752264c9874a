use Rattle.frz_plane_arms.proofs.FoundKings.{made_or_none}
use Rattle.frz_plane_arms.proofs.crowning.valid_pair.Goals as goal

pub returns : goal.returns
returns c =
    made_or_none c.args.set.now c.args.q.now c.known_pairs-pairs.result c.valid_pairs.result
    c.cut_with.new.self c.known_pairs-pairs.ensures c.valid_pairs.ensures c.cut_with.ensures
    c.next_pair.result c.next_pair.ensures
