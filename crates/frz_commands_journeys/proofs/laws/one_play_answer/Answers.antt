use Rattle.frz_ways.specs.declared.opponent.Opponent.TheVariants.{Input}
use Rattle.frz_commands_journeys.proofs.Lawful.{journey_lawful}
use Rattle.frz_commands_journeys.proofs.laws.one_play_answer.Goals as goal

pub returns : goal.returns
returns c =
    journey_lawful c.one_journey.ensures.there c.one_journey.ensures.one
    (record {
      moves = c.journeys_are_games.ensures.moves;
      games = c.journeys_are_games.ensures.games;
      won = c.bounds_are_kept_on.ensures.won;
      held = c.bounds_are_kept_on.ensures.held;
      few = c.few_stages.ensures;
      right = c.exact_tables_are_never_wrong.ensures;
    }) Input
