use Rattle.std.proofs.Common.{◌≡◌, true}
use Rattle.frz_arena.proofs.Forcing.NeverByPositions.{never_by}
use Rattle.frz_arena.proofs.laws.forcing.never_by_positions.Goals as goal

pub returns : goal.returns
returns g c chess side here closed none p h =
    never_by chess side (λ q. here q ≡ true) closed none p h
