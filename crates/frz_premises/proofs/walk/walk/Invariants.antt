use Rattle.std.proofs.Common.{◌≤◌, ◌+◌, map}
use Rattle.frz_backs.specs.Loaded.{link_loaded}
use Rattle.frz_premises.specs.Trials.{AreTried}
use Rattle.frz_premises.specs.WaysOut.{outside_below}
use Rattle.frz_premises.proofs.walk.walk.Given as goal

-- the numbers before this one are noted, each for one step at most
abbrev pub invariant-loop-number : goal.invariant-loop-number
invariant-loop-number g l = record {
  tried : AreTried l.leans l.game.rules.now (map link_loaded l.backs)
      (outside_below l.game.rules.now.groups l.number) l.trials;
  steps : l.steps ≤ l.fn.steps + l.number;
  later : l.fn.steps ≤ l.steps;
}
