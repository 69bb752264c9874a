use Rattle.frz_plane_chess.proofs.Placing.{are_spots, split_of, spot_is}
use Rattle.frz_plane_chess.proofs.laws.spots.Goals as goal

pub returns-clause-split : goal.returns-clause-split
returns-clause-split x r i c a b sound low =
    (spot_is r.groups i c a b, split_of r sound i c a b low)

pub returns-clause-placed : goal.returns-clause-placed
returns-clause-placed x = are_spots
