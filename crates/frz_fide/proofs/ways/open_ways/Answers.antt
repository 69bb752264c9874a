use Rattle.frz_fide.proofs.Targets.{piece_ways}
use Rattle.frz_fide.proofs.ways.open_ways.Goals as goal

pub returns-in_default : goal.returns-in_default
returns-in_default c =
    piece_ways c.args.p.now c.args.man c.args.a c.args.squares c.reached.result
    c.in_default.not-Pawn c.reached.type_inv c.reached.ensures
