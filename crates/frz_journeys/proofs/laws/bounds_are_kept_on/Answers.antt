use Rattle.frz_journeys.proofs.KeptOn.{held_on, won_on}
use Rattle.frz_journeys.proofs.laws.bounds_are_kept_on.Goals as goal

pub returns-clause-won : goal.returns-clause-won
returns-clause-won c = λ opponent side before table place start input stages left n own member kept j.
    won_on c.ways_are_games.ensures.exit opponent side c.bounds_are_kept.ensures.won before table place
    start input stages left n own member kept j

pub returns-clause-held : goal.returns-clause-held
returns-clause-held c = λ opponent side before table place start input stages left own member kept j.
    held_on c.ways_are_games.ensures.exit opponent side c.bounds_are_kept.ensures.won
    c.bounds_are_kept.ensures.held before table place start input stages left own member kept j
