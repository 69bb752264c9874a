use Rattle.frz_arena.specs.Ways.{ByCodes}
use Rattle.frz_game.specs.Games.{graph_by}
use Rattle.frz_ways.specs.declared.end.TheConstants.{LINE_LIMIT}
use Rattle.frz_ways.specs.Lines.{line_player}
use Rattle.frz_ways.proofs.GamesOfChess.{way_is_game}
use Rattle.frz_ways.proofs.laws.lines.lines_are_games.Goals as goal

pub returns : goal.returns
returns c = λ rules value side codes start plies end w.
    let player = line_player (graph_by rules value) side codes in
    way_is_game rules value side codes (ByCodes LINE_LIMIT) start tt tt plies end w
    (c.plies_keep.ensures player tt tt (0, start) plies end w)
    (c.plies_follow.ensures.next player tt tt (0, start) plies end w)
    (c.plies_follow.ensures.first player tt tt (0, start) plies end w)
