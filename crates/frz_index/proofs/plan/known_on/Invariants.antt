use Rattle.std.proofs.Common.{◌≡◌}
use Rattle.frz_squares.specs.SquareSets.{bits_below}
use Rattle.frz_index.specs.Kept.{is_known}
use Rattle.frz_index.proofs.plan.known_on.Given as goal

abbrev pub invariant-loop-square : goal.invariant-loop-square
invariant-loop-square l = l.word ≡ bits_below (is_known l.groups l.cell) l.square
