use Rattle.std.proofs.Common.{◌≡◌, ◌≤◌, ◌+◌, ◌-◌}
use Rattle.frz_combinations.specs.Binomials.{capped}
use Rattle.frz_combinations.specs.Selections.{choices}
use Rattle.frz_index.proofs.digit.smaller.Given as goal

abbrev pub invariant-loop-i : goal.invariant-loop-i
invariant-loop-i l =
    record {
      fits : l.sum ≤ 18446744073709551615;
      rest : capped (l.sum + choices l.states l.i (l.count - l.i)) ≡ capped
          (choices l.states l.least (l.count - l.least));
    }
