use Rattle.std.proofs.Common.{refl}
use Rattle.frz_arena.proofs.Lemmas.{counted_lawful}
use Rattle.frz_game.specs.Games.{graph_by}
use Rattle.frz_ways.specs.declared.end.TheConstants.{LINE_LIMIT}
use Rattle.frz_ways.specs.Lines.{line_player}
use Rattle.frz_ways.proofs.laws.lines.one_line.Goals as goal

pub returns-clause-there : goal.returns-clause-there
returns-clause-there c = λ rules value side codes start.
    c.lines_end.ensures (line_player (graph_by rules value) side codes) LINE_LIMIT refl
    (counted_lawful (graph_by rules value) (c.numbered.ensures.graph_lawful rules value)) tt
    (0, start)

pub returns-clause-one : goal.returns-clause-one
returns-clause-one c = λ rules value side codes start plies others end last w v.
    let r = c.one_way.ensures (line_player (graph_by rules value) side codes) 0 tt tt tt (0, start)
    plies
    others end last w v in
    (r.0, r.1)
