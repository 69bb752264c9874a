use Rattle.std.proofs.Common.{refl}
use Rattle.frz_arena.specs.WayEnds.{Mated, Exit}
use Rattle.frz_arena.proofs.Ways.KeptWays.{exact_way}
use Rattle.frz_arena.proofs.laws.lines.wins_in_lines.Goals as goal

pub returns-clause-mate : goal.returns-clause-mate
returns-clause-mate g c player line s t p xs mover n k w =
    (exact_way player 0 s t p xs (Mated mover) n line k w).mate mover refl

pub returns-clause-exit : goal.returns-clause-exit
returns-clause-exit g c player line s t p xs v n k w =
    (exact_way player 0 s t p xs (Exit v) n line k w).exit v refl
