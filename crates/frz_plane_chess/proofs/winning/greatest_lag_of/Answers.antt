use Rattle.std.proofs.Common.{arith}
use Rattle.frz_plane_chess.proofs.Lags.{lags_end, one_row_more}
use Rattle.frz_plane_chess.proofs.RowNumbers.{row_read}
use Rattle.frz_plane_chess.proofs.winning.greatest_lag_of.Goals as goal

pub loop-row-init : goal.loop-row-init
loop-row-init c = record {
  within = λ k row l. absurd (omega arith);
  small = omega arith;
}

pub loop-row-preserved : goal.loop-row-preserved
loop-row-preserved c =
    let rows = c.args.rows.now in
    let k = c.loop-row.row-index in
    record {
      within = one_row_more rows c.args.side k c.loop-row.most c.row_lag.result c.max-most.result
          c.row-item.result (row_read rows k c.row-item.result c.row-item.is c.loop-row-test.true)
          (omega arith) (omega arith) c.loop-row.invariant.within c.row_lag.ensures.within;
      small = omega arith;
    }

pub returns-clause-within : goal.returns-clause-within
returns-clause-within c =
    lags_end c.args.rows.now c.args.side c.loop-row.row-index c.loop-row.most
    c.loop-row-test.false c.loop-row.invariant.within
