use Rattle.frz_bits.proofs.EndRanks.{inside_is}
use Rattle.frz_bits.proofs.shape.pawns_inside.Goals as goal

pub returns : goal.returns
returns c =
    inside_is c.args.p.now c.men-white.result c.men-black.result c.men-white.ensures
    c.men-black.ensures
