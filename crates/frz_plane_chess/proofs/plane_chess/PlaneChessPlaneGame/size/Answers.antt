use Rattle.std.proofs.Common.{ap, ◌∙◌}
use Rattle.frz_sets.specs.Sets.{size_of}
use Rattle.frz_plane_chess.proofs.plane_chess.PlaneChessPlaneGame.size.Goals as goal

pub returns : goal.returns
returns g c = c.size.ensures.size ∙ ap size_of c.requires.same
