use Rattle.std.proofs.Common.{◌≡◌, length, arith}
use Rattle.frz_fen.proofs.RankCells.{ends_whole}
use Rattle.frz_fen.proofs.placement.read_rank.Goals as goal

pub returns-then-len-eq8-clause-right : goal.returns-then-len-eq8-clause-right
returns-then-len-eq8-clause-right c =
    let whole : length c.loop-byte.row.items ≡ 8 = omega arith in
    ends_whole c.args.part.now c.loop-byte.row.items c.loop-byte.byte-index c.loop-byte-test.false
    c.loop-byte.invariant.cells c.loop-byte.invariant.bytes whole
