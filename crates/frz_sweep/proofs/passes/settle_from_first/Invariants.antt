use Rattle.std.proofs.Common.{◌≤◌, ◌<◌, ◌+◌, ◌-◌}
use Rattle.frz_sweep.specs.Told.{AreTold}
use Rattle.frz_sweep.proofs.passes.settle_from_first.Given as goal

-- the codes tell the plies before this one, and the plies are few
abbrev pub invariant-plies : goal.invariant-plies
invariant-plies g l = record {
  told : AreTold (g.G.NumberedGame.arena l.game) l.side l.ply l.codes;
  some : 0 < l.ply;
  later : l.fn.steps ≤ l.steps;
  few : l.ply ≤ g.G.NumberedGame.count l.game + l.lag + 1;
}

abbrev pub decreases-plies : goal.decreases-plies
decreases-plies g l = (g.G.NumberedGame.count l.game + l.lag + 2) - l.ply
