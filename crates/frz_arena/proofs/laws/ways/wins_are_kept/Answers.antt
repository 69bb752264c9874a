use Rattle.std.proofs.Common.{refl}
use Rattle.frz_arena.specs.WayEnds.{Exit}
use Rattle.frz_arena.proofs.Ways.KeptWays.{won_way}
use Rattle.frz_arena.proofs.laws.ways.wins_are_kept.Goals as goal

pub returns-clause-few : goal.returns-clause-few
returns-clause-few g c player s t p xs e n k w = (won_way player 0 s t p xs e n k w).few

pub returns-clause-ends : goal.returns-clause-ends
returns-clause-ends g c player s t p xs e n k w = (won_way player 0 s t p xs e n k w).ends

pub returns-clause-exit : goal.returns-clause-exit
returns-clause-exit g c player s t p xs v n k w =
    (won_way player 0 s t p xs (Exit v) n k w).exit v refl
