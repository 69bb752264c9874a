use Rattle.frz_plane_chess.proofs.LiveNumbers.{live_numbers}
use Rattle.frz_plane_chess.proofs.laws.live.Goals as goal

pub returns : goal.returns
returns x = live_numbers
