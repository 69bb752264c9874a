use Rattle.frz_journeys.proofs.JourneyGames.{journey_games, journey_legal}
use Rattle.frz_journeys.proofs.laws.journeys_are_games.Goals as goal

pub returns-clause-moves : goal.returns-clause-moves
returns-clause-moves c = λ opponent side before table place start input stages left member j.
    journey_legal c.ways_are_games.ensures.game opponent side c.all_listed.ensures before table place
    start input stages left member j

pub returns-clause-games : goal.returns-clause-games
returns-clause-games c = λ opponent side before table place start input stages left member j.
    journey_games c.ways_are_games.ensures.game opponent side before table place start input stages
    left member j
