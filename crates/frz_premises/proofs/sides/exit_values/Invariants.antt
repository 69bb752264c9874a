use Rattle.std.proofs.Common.{◌≡◌, ◌≤◌, ◌+◌, map}
use Rattle.frz_premises.specs.Sides.{values_tell}
use Rattle.frz_premises.specs.WaysOut.{outside_below}
use Rattle.frz_premises.proofs.sides.exit_values.Given as goal

-- the values of the exits of the numbers before this one are told
abbrev pub invariant-loop-number : goal.invariant-loop-number
invariant-loop-number g l = record {
  told : l.told ≡ values_tell (map (g.B.ExitBook.value_at l.game.book.now)
      (outside_below l.game.rules.now.groups l.number));
  steps : l.steps ≤ l.fn.steps + l.number;
  later : l.fn.steps ≤ l.steps;
}
