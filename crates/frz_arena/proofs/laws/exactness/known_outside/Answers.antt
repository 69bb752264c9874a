use Rattle.frz_arena.proofs.Exactness.Decided.{decided_wins, decided_losses, none_won}
use Rattle.frz_arena.proofs.laws.exactness.known_outside.Goals as goal

pub returns-clause-wins : goal.returns-clause-wins
returns-clause-wins g c = decided_wins

pub returns-clause-losses : goal.returns-clause-losses
returns-clause-losses g c = decided_losses

pub returns-clause-none_won : goal.returns-clause-none_won
returns-clause-none_won g c = none_won
