use Rattle.std.proofs.Common.{◌≤◌, ◌-◌}
use Rattle.frz_index.proofs.MovedMen.{MovedBelow}
use Rattle.frz_index.proofs.beside.moved_men.Given as goal

abbrev pub invariant-loop-s : goal.invariant-loop-s
invariant-loop-s l = record { low : l.n ≤ 64; moved : MovedBelow l.p l.q l.squares l.n l.moved }

abbrev pub decreases-loop-s : goal.decreases-loop-s
decreases-loop-s l = 64 - l.n
