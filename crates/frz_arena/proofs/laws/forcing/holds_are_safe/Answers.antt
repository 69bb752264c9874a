use Rattle.frz_arena.proofs.Forcing.HoldsSafe.{forced_fails}
use Rattle.frz_arena.proofs.laws.forcing.holds_are_safe.Goals as goal

pub returns-clause-forced : goal.returns-clause-forced
returns-clause-forced g c = forced_fails

pub returns-clause-safe : goal.returns-clause-safe
returns-clause-safe g c game exits side p there never n f =
    never n (forced_fails game exits side n p there f)
