use Rattle.frz_arena.specs.WayEnds.{Exit}
use Rattle.frz_game.specs.Games.{graph_by}
use Rattle.frz_ways.specs.Ways.{way_player}
use Rattle.frz_ways.proofs.GamesOfChess.{exit_told, way_is_game}
use Rattle.frz_ways.proofs.laws.ways.ways_are_games.Goals as goal

pub returns-clause-game : goal.returns-clause-game
returns-clause-game c = λ rules value opponent side codes start input plies end left w.
    let player = way_player (graph_by rules value) opponent side codes in
    way_is_game rules value side codes player.opponent start input left plies end w
    (c.plies_keep.ensures player input left (0, start) plies end w)
    (c.plies_follow.ensures.next player input left (0, start) plies end w)
    (c.plies_follow.ensures.first player input left (0, start) plies end w)

pub returns-clause-exit : goal.returns-clause-exit
returns-clause-exit c = λ rules value opponent side codes start input plies v left p w at.
    let player = way_player (graph_by rules value) opponent side codes in
    exit_told rules value side codes player.opponent start input left plies v p at w
    (c.plies_keep.ensures player input left (0, start) plies (Exit v) w)
    (c.plies_follow.ensures.next player input left (0, start) plies (Exit v) w)
    (c.plies_follow.ensures.first player input left (0, start) plies (Exit v) w)
    (c.plies_follow.ensures.exit player input left (0, start) plies v w)
