use Rattle.std.proofs.Common.{◌≡◌, ◌≤◌, ◌⊎◌}
use Rattle.std.specs.Prelude.{All, take}
use Rattle.frz_sweep.specs.Winning.{HasWinAfter, WinsIn}
use Rattle.frz_sweep.proofs.winning.greatest_winning_lag.Given as goal

abbrev pub invariant-loop-arm : goal.invariant-loop-arm
invariant-loop-arm l = record {
  within : All (λ a. WinsIn l.side l.most a.next) (take l.arm-index l.arms);
  reached : (l.most ≡ 0) ⊎ HasWinAfter l.side l.most l.arms;
  small : l.most ≤ 1000;
}
