use Rattle.frz_arena.proofs.Ways.WayByCases.{by_cases, of_cases, played_is, taken_is}
use Rattle.frz_arena.proofs.laws.ways.ways_by_cases.Goals as goal

pub returns-clause-plies : goal.returns-clause-plies
returns-clause-plies g c player s t x = (taken_is player s t x, played_is player s t x)

pub returns-clause-ways : goal.returns-clause-ways
returns-clause-ways g c player k s t p xs e =
    (of_cases player k s t p xs e, by_cases player k s t p xs e)
