use Rattle.std.proofs.Common.{◌≡◌, length, take}
use Rattle.frz_ways.specs.SeenMoves.{choices_by}
use Rattle.frz_ways.proofs.choosing.put_choices.Given as goal

abbrev pub invariant-loop-place : goal.invariant-loop-place
invariant-loop-place l = record {
  room : length l.into ≡ length l.arms;
  filled : take l.place l.into ≡ take l.place (choices_by l.own l.arms l.codes);
}
