use Rattle.frz_arena.proofs.Lemmas.{one_bound, opposed_bounds}
use Rattle.frz_game.specs.Games.{arena_by}
use Rattle.frz_game.proofs.Graph.{lawful}
use Rattle.frz_game.proofs.Bounded.{bound_there}
use Rattle.frz_game.proofs.laws.tables.bounds.Goals as goal

pub returns-clause-there : goal.returns-clause-there
returns-clause-there c = bound_there

pub returns-clause-one : goal.returns-clause-one
returns-clause-one c rules value = one_bound (arena_by rules value)

pub returns-clause-opposed : goal.returns-clause-opposed
returns-clause-opposed c rules value = opposed_bounds (arena_by rules value) (lawful rules value)
