use Rattle.frz_reasons.proofs.GamesOfChess.{end_at, game_from}
use Rattle.frz_reasons.proofs.laws.failing_ways_are_games.Goals as goal

pub returns-clause-moves : goal.returns-clause-moves
returns-clause-moves c = λ rules value side codes start arms reason p at way.
    game_from rules value side codes start arms reason p at way

pub returns-clause-end : goal.returns-clause-end
returns-clause-end c = λ rules value side codes start arms reason p at way.
    end_at rules value side codes start arms reason p at way
