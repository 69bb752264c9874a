use Rattle.frz_game.specs.Games.{graph_by}
use Rattle.frz_game.proofs.Lemmas.{graph_lawful}
use Rattle.frz_commands_why.proofs.Lawful.{why_lawful}
use Rattle.frz_commands_why.proofs.laws.why_lawful.Goals as goal

pub returns : goal.returns
returns c =
    why_lawful c.one_failing_way.ensures.there c.one_failing_way.ensures.one (record {
      moves = c.failing_ways_are_games.ensures.moves;
      end = c.failing_ways_are_games.ensures.end;
      length_is = c.tables_are_never_wrong.ensures.length;
      right = c.tables_are_never_wrong.ensures.right;
      spoiled = c.spoils.ensures;
      best = record {
        fails = λ rules value side codes number failing agrees.
            c.failures_are_spoiled.ensures (graph_by rules value) (graph_lawful rules value) side
            codes number failing agrees;
        opponent = c.quickest.ensures.opponent;
        own = c.quickest.ensures.own;
      };
    })
