use Rattle.std.proofs.Common.{◌&&◌, ◌∙◌, ap}
use Rattle.frz_planes.specs.Planes.{has_pair}
use Rattle.frz_pair_moves.proofs.KingPairs.{arriving}
use Rattle.frz_pair_moves.proofs.kings.arriving_pairs.Goals as goal

pub returns-clause-plane : goal.returns-clause-plane
returns-clause-plane c a b la lb =
    c.cut_with.ensures a b la lb
    ∙ ap (λ t. t && has_pair c.args.before.now a b) (c.pairs_around-pairs.ensures.pairs a b la lb)

pub returns-clause-legal : goal.returns-clause-legal
returns-clause-legal c p turn free before after a b la lb =
    arriving p c.args.before.now before c.args.turn c.args.s turn
    c.pairs_around-pairs.ensures.on_board free c.args.after.now
    c.pairs_around-pairs.result c.cut_with.new.self after c.pairs_around-pairs.ensures.pairs
    c.cut_with.ensures a b la lb
