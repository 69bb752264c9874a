use Rattle.frz_game.specs.Games.{graph_by}
use Rattle.frz_ways.proofs.GamesOfChess.{way_is_game}
use Rattle.frz_ways.specs.Reading.{opened}
use Rattle.frz_ways.specs.Sessions.{session_player}
use Rattle.frz_ways.proofs.laws.sessions.sessions_are_games.Goals as goal

pub returns : goal.returns
returns c = λ rules value side codes start input plies end left w.
    let player = session_player (graph_by rules value) side codes in
    way_is_game rules value side codes player.opponent start (opened input) left plies end w
    (c.plies_keep.ensures player (opened input) left (0, start) plies end w)
    (c.plies_follow.ensures.next player (opened input) left (0, start) plies end w)
    (c.plies_follow.ensures.first player (opened input) left (0, start) plies end w)
