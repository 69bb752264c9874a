use Rattle.frz_game.specs.Games.{graph_by}
use Rattle.frz_ways.specs.Ways.{way_player}
use Rattle.frz_ways.proofs.GameOver.{stands_at_end}
use Rattle.frz_ways.proofs.laws.ends.ways_end_in_chess.Goals as goal

pub returns : goal.returns
returns c = λ rules value opponent side codes start input plies end left p w at.
    let player = way_player (graph_by rules value) opponent side codes in
    stands_at_end rules value side codes player.opponent start input left plies end p at w
    (c.plies_keep.ensures player input left (0, start) plies end w)
