use Rattle.std.proofs.Common.{◌≤◌, ◌<◌, ◌+◌, ℕ}
use Rattle.frz_check.specs.Verdicts.{AgreeAt}
use Rattle.frz_check.proofs.entries.check_numbers.Given as goal

-- the entries agree at the numbers so far
abbrev pub invariant-loop-number : goal.invariant-loop-number
invariant-loop-number g l = record {
  agree : (i : ℕ) → i < l.number
      → AgreeAt (g.G.NumberedGame.arena l.game) (g.E.Entries.codes l.entries) i;
  steps : l.steps ≤ l.fn.steps + l.number;
  later : l.fn.steps ≤ l.steps;
}
