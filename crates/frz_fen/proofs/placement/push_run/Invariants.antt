use Rattle.std.proofs.Common.{◌≡◌, ◌++◌, replicate}
use Rattle.frz_fen.proofs.placement.push_run.Given as goal

abbrev pub invariant-loop-square : goal.invariant-loop-square
invariant-loop-square l = l.row.items ≡ l.initial.row.items ++ replicate l._square l.cell
