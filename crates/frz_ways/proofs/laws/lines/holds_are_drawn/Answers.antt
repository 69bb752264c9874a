use Rattle.std.proofs.Common.{refl}
use Rattle.frz_game.specs.Games.{graph_by}
use Rattle.frz_ways.specs.declared.end.TheConstants.{LINE_LIMIT}
use Rattle.frz_ways.specs.Lines.{line_player}
use Rattle.frz_ways.proofs.laws.lines.holds_are_drawn.Goals as goal

pub returns-clause-drawn : goal.returns-clause-drawn
returns-clause-drawn c = λ rules value side codes start plies end e w.
    c.holds_in_lines.ensures.drawn (line_player (graph_by rules value) side codes) refl tt tt
    (0, start)
    plies end e w

pub returns-clause-few : goal.returns-clause-few
returns-clause-few c = λ rules value side codes start plies end e w.
    c.holds_in_lines.ensures.few (line_player (graph_by rules value) side codes) LINE_LIMIT refl tt
    tt (0, start) plies end e w

pub returns-clause-cut : goal.returns-clause-cut
returns-clause-cut c = λ rules value side codes start plies e w.
    c.holds_in_lines.ensures.cut (line_player (graph_by rules value) side codes) LINE_LIMIT refl tt
    tt (0, start) plies e w
