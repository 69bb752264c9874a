use Rattle.std.proofs.Common.{ap, sym}
use Rattle.frz_plane_chess.specs.Rows.{turn_of}
use Rattle.frz_plane_chess.proofs.plane_chess.PlaneChessPlaneGame.mover.Goals as goal

pub returns-in-None : goal.returns-in-None
returns-in-None g c = sym (ap turn_of c.in-None.ensures)

pub returns-in-Some : goal.returns-in-Some
returns-in-Some g c = sym (ap turn_of c.in-Some.ensures)
