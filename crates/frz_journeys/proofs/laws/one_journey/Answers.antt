use Rattle.std.proofs.Common.{arith, length}
use Rattle.frz_journeys.proofs.OneJourney.{journey_one, journey_there}
use Rattle.frz_journeys.proofs.laws.one_journey.Goals as goal

pub returns-clause-there : goal.returns-clause-there
returns-clause-there c = λ opponent side before table place start input.
    journey_there opponent side c.one_way.ensures.there (length before) before (omega arith) table
    place start input

pub returns-clause-one : goal.returns-clause-one
returns-clause-one c = λ opponent side before table place start input stages others left rest a b.
    journey_one opponent side c.one_way.ensures.one before table place start input stages others left
    rest a b
