use Rattle.std.proofs.Common.{◌≡◌, ◌≤◌, ◌-◌}
use Rattle.frz_combinations.specs.Selections.{count_and_rank}
use Rattle.frz_index.proofs.placing.men_of.Given as goal

abbrev pub invariant-loop-count : goal.invariant-loop-count
invariant-loop-count l = record {
  most : l.count ≤ l.most;
  small : l.rest ≤ l.digit;
  rest : count_and_rank l.states l.count (l.most - l.count) l.rest
      ≡ count_and_rank l.states l.least (l.most - l.least) l.digit;
}

abbrev pub decreases-loop-count : goal.decreases-loop-count
decreases-loop-count l = l.most - l.count
