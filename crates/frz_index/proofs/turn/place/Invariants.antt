use Rattle.std.proofs.Common.{◌≡◌, ◌+◌, drop}
use Rattle.frz_index.specs.TurnStates.{place_of}
use Rattle.frz_index.proofs.turn.place.Given as goal

abbrev pub invariant-loop-x : goal.invariant-loop-x
invariant-loop-x l =
    record {
      at : l.at ≡ l.x-index;
      place : l.at + place_of l.t (drop l.x-index l.targets)
          ≡ place_of l.t l.targets;
    }
