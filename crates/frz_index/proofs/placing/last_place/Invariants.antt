use Rattle.std.proofs.Common.{◌≤◌, ◌<◌, ◌-◌, ℕ}
use Rattle.frz_combinations.specs.Binomials.{choose}
use Rattle.frz_index.proofs.placing.last_place.Given as goal

abbrev pub invariant-loop-high : goal.invariant-loop-high
invariant-loop-high l = record {
  order : l.low < l.high;
  within : l.high ≤ l.end;
  fits : choose l.low l.count ≤ l.rank;
  above : (x : ℕ) → l.high ≤ x → x < l.end → l.rank < choose x l.count;
}

abbrev pub decreases-loop-high : goal.decreases-loop-high
decreases-loop-high l = l.high - l.low
