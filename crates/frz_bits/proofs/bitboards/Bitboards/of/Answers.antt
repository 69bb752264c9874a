use Rattle.frz_bits.proofs.Men.{sides_of}
use Rattle.frz_bits.proofs.bitboards.Bitboards.of.Goals as goal

pub invariant_of-result : goal.invariant_of-result
invariant_of-result c =
    sides_of c.args.p.now c.cells-cells.result c.cells_from.result c.cells_from-2.result
    c.cells-cells.ensures.cells c.cells-cells.ensures.fits c.cells_from.type_inv
    c.cells_from-2.type_inv c.cells_from.ensures c.cells_from-2.ensures
