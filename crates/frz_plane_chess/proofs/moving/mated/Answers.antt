use Rattle.std.proofs.Common.{subst}
use Rattle.frz_board.specs.declared.man.Colour.{Colour}
use Rattle.frz_king_planes.specs.Attacked.{AreAttacked}
use Rattle.frz_plane_chess.proofs.Mates.{are_mated}
use Rattle.frz_plane_chess.proofs.moving.mated.Goals as goal

pub returns : goal.returns
returns c r value k sound board live moves =
    are_mated r value c.args.p.now k c.args.live.now c.args.moving.now c.attacked-pairs.result
    c.cut_with.new.self c.without.new.self sound board live moves
    (subst (λ (t : Colour). AreAttacked c.args.p.now t c.attacked-pairs.result) c.turn.ensures
    c.attacked-pairs.ensures)
    c.cut_with.ensures c.without.ensures
