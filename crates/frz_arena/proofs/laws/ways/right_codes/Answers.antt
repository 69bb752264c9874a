use Rattle.std.proofs.Common.{refl}
use Rattle.frz_arena.specs.WayEnds.{Wrong}
use Rattle.frz_arena.proofs.Ways.RightWays.{right_way, right_table}
use Rattle.frz_arena.proofs.laws.ways.right_codes.Goals as goal

pub returns-clause-codes : goal.returns-clause-codes
returns-clause-codes g c player closed eqs s t p xs q kept given there w =
    right_way player closed eqs 0 s t p xs (Wrong q kept given) q kept given refl there w

pub returns-clause-table : goal.returns-clause-table
returns-clause-table g c = right_table
