use Rattle.frz_commands_line.proofs.Lawful.{line_lawful}
use Rattle.frz_commands_line.proofs.laws.one_line_answer.Goals as goal

pub returns : goal.returns
returns c =
    line_lawful c.one_line.ensures.there c.one_line.ensures.one
    (record {
      game = c.lines_are_games.ensures;
      short = c.least_plies.ensures.few;
      won = c.least_plies.ensures.won;
      mate = c.least_plies.ensures.mate;
      exit = c.least_plies.ensures.exit;
      drawn = c.holds_are_drawn.ensures.drawn;
      few = c.holds_are_drawn.ensures.few;
      cut = c.holds_are_drawn.ensures.cut;
      right = c.tables_are_never_wrong.ensures;
    })
