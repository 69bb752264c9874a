use Rattle.frz_arena.proofs.Bounds.BoundsExist.{bound_exists, win_plies_few, failure_plies_few}
use Rattle.frz_arena.proofs.laws.bounds.bounds_exist.Goals as goal

pub returns-clause-bound : goal.returns-clause-bound
returns-clause-bound g c = bound_exists

pub returns-clause-win : goal.returns-clause-win
returns-clause-win g c = win_plies_few

pub returns-clause-failure : goal.returns-clause-failure
returns-clause-failure g c = failure_plies_few
