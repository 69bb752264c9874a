use Rattle.frz_index.proofs.Lemmas.{position_tells}
use Rattle.frz_king_planes.specs.Kings.{with_kings}
use Rattle.frz_plane_chess.proofs.LiveNumbers.{node_missing, node_there}
use Rattle.frz_plane_chess.proofs.Positions.{is_made, made, none_there}
use Rattle.frz_plane_chess.proofs.laws.nodes.Goals as goal

pub returns-clause-position : goal.returns-clause-position
returns-clause-position x r p q i c a b sound board split at =
    is_made r p i c a b sound board split q (position_tells r.groups i q at)

pub returns-clause-there : goal.returns-clause-there
returns-clause-there x r value p i c a b sound board split m =
    node_there r value i (with_kings p a b) (made r p i c a b sound board split m)

pub returns-clause-broken : goal.returns-clause-broken
returns-clause-broken x r value p i c a b sound board split none =
    node_missing r value i (none_there r p i c a b sound board split none)
