use Rattle.std.proofs.Common.{add-one}
use Rattle.frz_arena.proofs.Plies.Stable.{wins_stay, fails_stay}
use Rattle.frz_arena.proofs.laws.plies.stable.Goals as goal

pub returns-clause-wins : goal.returns-clause-wins
returns-clause-wins g c arena side k lags still =
    wins_stay arena side k lags (λ p w. still p (rw add-one w))

pub returns-clause-fails : goal.returns-clause-fails
returns-clause-fails g c arena side k still =
    fails_stay arena side k (λ p w. still p (rw add-one w))
