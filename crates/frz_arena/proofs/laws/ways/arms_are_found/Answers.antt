use Rattle.frz_arena.proofs.Ways.FoundArms.{chosen_there}
use Rattle.frz_arena.proofs.Ways.FoundChoices.{choice_is_arm}
use Rattle.frz_arena.proofs.Ways.OneWay.{one_chosen}
use Rattle.frz_arena.proofs.laws.ways.arms_are_found.Goals as goal

pub returns-clause-there : goal.returns-clause-there
returns-clause-there g c = chosen_there

pub returns-clause-one : goal.returns-clause-one
returns-clause-one g c = one_chosen

pub returns-clause-choice : goal.returns-clause-choice
returns-clause-choice g c = choice_is_arm
