use Rattle.std.proofs.Common.{refl}
use Rattle.frz_game.specs.Games.{graph_by}
use Rattle.frz_ways.specs.Lines.{line_player}
use Rattle.frz_ways.proofs.laws.lines.least_plies.Goals as goal

pub returns-clause-few : goal.returns-clause-few
returns-clause-few c = λ rules value side codes start n plies end e w.
    c.wins_are_kept.ensures.few (line_player (graph_by rules value) side codes) tt tt (0, start)
    plies
    end n e w

pub returns-clause-won : goal.returns-clause-won
returns-clause-won c = λ rules value side codes start n plies end e w.
    c.wins_are_kept.ensures.ends (line_player (graph_by rules value) side codes) tt tt (0, start)
    plies
    end n e w

pub returns-clause-mate : goal.returns-clause-mate
returns-clause-mate c = λ rules value side mover codes start n plies e w.
    c.wins_in_lines.ensures.mate (line_player (graph_by rules value) side codes) refl tt tt
    (0, start)
    plies mover n e w

pub returns-clause-exit : goal.returns-clause-exit
returns-clause-exit c = λ rules value side codes start n plies v e w.
    c.wins_in_lines.ensures.exit (line_player (graph_by rules value) side codes) refl tt tt
    (0, start)
    plies v n e w
