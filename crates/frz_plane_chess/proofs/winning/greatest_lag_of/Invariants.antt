use Rattle.std.proofs.Common.{◌≤◌}
use Rattle.frz_plane_chess.specs.Rows.{HaveLagsWithin}
use Rattle.frz_plane_chess.proofs.winning.greatest_lag_of.Given as goal

-- the lags of the rows so far
abbrev pub invariant-loop-row : goal.invariant-loop-row
invariant-loop-row l = record {
  within : HaveLagsWithin l.rows l.side l.row-index l.most;
  small : l.most ≤ 1000;
}
