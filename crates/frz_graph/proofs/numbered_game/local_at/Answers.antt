use Rattle.std.proofs.Common.{map, refl, ◌∙◌}
use Rattle.frz_graph.specs.EntryCodes.{arm_code}
use Rattle.frz_graph.proofs.LocalCodes.{given_within, local_code_of}
use Rattle.frz_graph.proofs.numbered_game.local_at.Goals as goal

pub local_by-requires : goal.local_by-requires
local_by-requires g c =
    let game = c.args.game.now in
    given_within (g.G.NumberedGame.arena game) (g.G.NumberedGame.count game) _
    (g.met.G.NumberedGame.finite game c.requires.sound) c.args.i
    c.nexts_by-node.new.lists.nexts.items
    c.requires.many c.nexts_by-node.ensures.arms

pub returns-clause-code : goal.returns-clause-code
returns-clause-code g c =
    let game = c.args.game.now in
    let entries = g.E.Entries.codes c.args.entries.now c.args.side in
    let arms = c.nexts_by-node.new.lists.nexts.items in
    c.local_by.ensures
    ∙ local_code_of (g.G.NumberedGame.arena game) (g.G.NumberedGame.count game)
    (g.met.G.NumberedGame.finite game c.requires.sound) c.args.side entries c.args.i
    c.nexts_by-node.result arms (map (arm_code c.args.side entries) arms)
    c.nexts_by-node.ensures.node c.nexts_by-node.ensures.arms refl
