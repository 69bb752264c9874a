use Rattle.frz_game.specs.Games.{graph_by}
use Rattle.frz_ways.specs.Ways.{way_player}
use Rattle.frz_ways.proofs.laws.ways.bounds_are_kept.Goals as goal

pub returns-clause-won : goal.returns-clause-won
returns-clause-won c = λ rules value opponent side codes start n input plies end left e w.
    c.wins_are_kept.ensures.ends (way_player (graph_by rules value) opponent side codes) input left
    (0, start) plies end n e w

pub returns-clause-held : goal.returns-clause-held
returns-clause-held c = λ rules value opponent side codes start input plies end left e w.
    c.holds_are_kept.ensures (way_player (graph_by rules value) opponent side codes) input left
    (0, start) plies end e w
