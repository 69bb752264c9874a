use Rattle.std.proofs.Common.{◌≤◌}
use Rattle.frz_plane_chess.proofs.Lags.{HasLagsBelow}
use Rattle.frz_plane_chess.proofs.winning.greatest_winning_lag.Given as goal

-- the lags of the exits so far
abbrev pub invariant-loop-exit : goal.invariant-loop-exit
invariant-loop-exit l = record {
  within : HasLagsBelow l.exits l.side l.exit-index l.most;
  small : l.most ≤ 1000;
}
