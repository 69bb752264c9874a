use Rattle.frz_configurations.proofs.OneNumber.{king_squares, one_number}
use Rattle.frz_configurations.proofs.OtherDigits.{configuration_below, number_below}
use Rattle.frz_configurations.proofs.PositionSplit.{position_split}
use Rattle.frz_configurations.proofs.laws.configurations.Goals as goal

pub returns-clause-position : goal.returns-clause-position
returns-clause-position c = position_split

pub returns-clause-below : goal.returns-clause-below
returns-clause-below c gs i k a b h = (number_below gs i k a b h, configuration_below gs i k a b h)

pub returns-clause-once : goal.returns-clause-once
returns-clause-once c = one_number

pub returns-clause-kings : goal.returns-clause-kings
returns-clause-kings c = king_squares
