use Rattle.frz_exit_lines.proofs.Saying.{as_many_lines, said_there}
use Rattle.frz_exit_lines.proofs.laws.exits_stand_there.Goals as goal

pub returns-clause-many : goal.returns-clause-many
returns-clause-many c = as_many_lines

pub returns-clause-each : goal.returns-clause-each
returns-clause-each c = said_there
