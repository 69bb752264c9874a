use Rattle.frz_arena.proofs.Names.NumberedGames.{going, inside}
use Rattle.frz_arena.proofs.laws.names.numbers_go_on.Goals as goal

pub returns-clause-going : goal.returns-clause-going
returns-clause-going g c = going

pub returns-clause-inside : goal.returns-clause-inside
returns-clause-inside g c = inside
