use Rattle.std.proofs.Common.{◌<◌, ◌≤◌, ◌-◌, ◌^◌}
use Rattle.frz_bits.proofs.Attacked.{IsGathered}
use Rattle.frz_bits.proofs.bitboards.Bitboards.attacked.Given as goal

abbrev pub invariant-loop-a : goal.invariant-loop-a
invariant-loop-a l = record {
  within : l.n ≤ 64;
  small : l.word < 2 ^ 64;
  gathered : IsGathered l.self l.fn.by l.n l.word;
}

abbrev pub decreases-loop-a : goal.decreases-loop-a
decreases-loop-a l = 64 - l.n
