use Rattle.frz_plane_chess.proofs.Leading.{some_leading}
use Rattle.frz_plane_chess.proofs.laws.leading.Goals as goal

pub returns : goal.returns
returns x = some_leading
