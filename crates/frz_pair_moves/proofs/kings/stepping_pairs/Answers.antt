use Rattle.std.proofs.Common.{◌&&◌, ◌∙◌, ap}
use Rattle.frz_planes.specs.Planes.{has_pair}
use Rattle.frz_pair_moves.proofs.KingPairs.{stepping}
use Rattle.frz_pair_moves.proofs.kings.stepping_pairs.Goals as goal

pub returns-clause-plane : goal.returns-clause-plane
returns-clause-plane c a b la lb =
    c.cut_with.ensures a b la lb
    ∙ ap (λ t. t && has_pair c.args.before.now a b) (c.pairs_beside-pairs.ensures a b la lb)

pub returns-clause-legal : goal.returns-clause-legal
returns-clause-legal c p turn before inside a b la lb =
    stepping p c.args.before.now before c.args.turn turn c.args.to.now c.pairs_beside-pairs.result
    c.cut_with.new.self inside c.pairs_beside-pairs.ensures c.cut_with.ensures a b la lb
