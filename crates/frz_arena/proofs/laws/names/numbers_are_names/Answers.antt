use Rattle.frz_arena.proofs.Names.NumbersAreNames.{naming, numbered_is, numbers_lawful}
use Rattle.frz_arena.proofs.laws.names.numbers_are_names.Goals as goal

pub returns-clause-naming : goal.returns-clause-naming
returns-clause-naming g c = naming

pub returns-clause-numbered : goal.returns-clause-numbered
returns-clause-numbered g c = numbered_is

pub returns-clause-lawful : goal.returns-clause-lawful
returns-clause-lawful g c = numbers_lawful
