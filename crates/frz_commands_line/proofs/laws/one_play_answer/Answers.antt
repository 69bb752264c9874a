use Rattle.frz_commands_line.proofs.Lawful.{play_lawful}
use Rattle.frz_commands_line.proofs.laws.one_play_answer.Goals as goal

pub returns : goal.returns
returns c =
    play_lawful c.one_session.ensures.there c.one_session.ensures.one
    (record {
      game = c.sessions_are_games.ensures;
      few = c.wins_are_kept.ensures.few;
      won = c.wins_are_kept.ensures.won;
      exit = c.wins_are_kept.ensures.exit;
      held = c.holds_are_kept.ensures;
      right = c.tables_are_never_wrong.ensures;
      safe = c.sessions_are_safe.ensures;
    })
