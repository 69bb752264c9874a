use Rattle.std.proofs.Common.{◌∙◌}
use Rattle.frz_board.specs.declared.man.Colour.TheVariants.{White, Black}
use Rattle.frz_check.proofs.FirstWrong.{checked_there, code_of_number, moves_within, wrong_there}
use Rattle.frz_check.proofs.entries.wrong_at.Goals as goal

pub compare-requires-clause-within : goal.compare-requires-clause-within
compare-requires-clause-within g c =
    let arena = g.G.NumberedGame.arena c.args.game.now in
    let size = g.G.NumberedGame.count c.args.game.now in
    moves_within arena size _ c.args.number _
    (c.within.ensures arena size (g.met.G.NumberedGame.finite c.args.game.now c.requires.sound)
    c.args.number)
    c.requires.many c.nexts_by-node.ensures.arms

pub returns-in-Some-clause-checked : goal.returns-in-Some-clause-checked
returns-in-Some-clause-checked g c =
    let arena = g.G.NumberedGame.arena c.args.game.now in
    let finite = g.met.G.NumberedGame.finite c.args.game.now c.requires.sound in
    let codes = g.E.Entries.codes c.args.entries.now in
    wrong_there arena codes White c.args.number _ c.in-Some.wrong
    (code_of_number arena White (codes White) c.args.number c.nexts_by-node.result
    c.nexts_by-node.new.lists.nexts.items c.nexts_by-node.ensures.node c.nexts_by-node.ensures.arms
    (c.filled.ensures arena finite.class finite.lag White (codes White) c.args.number))
    c.in-Some.ensures (λ black. absurd (cc))

pub returns-clause-checked : goal.returns-clause-checked
returns-clause-checked g c =
    let arena = g.G.NumberedGame.arena c.args.game.now in
    let finite = g.met.G.NumberedGame.finite c.args.game.now c.requires.sound in
    let codes = g.E.Entries.codes c.args.entries.now in
    let white = code_of_number arena White (codes White) c.args.number c.nexts_by-node.result
    c.nexts_by-node.new.lists.nexts.items c.nexts_by-node.ensures.node
    c.nexts_by-node.ensures.arms
    (c.filled.ensures arena finite.class finite.lag White (codes White) c.args.number) in
    checked_there arena codes c.args.number _ c.compare-2.result
    (code_of_number arena Black (codes Black) c.args.number c.nexts_by-node.result
    c.nexts_by-node.new.lists.nexts.items c.nexts_by-node.ensures.node c.nexts_by-node.ensures.arms
    (c.filled.ensures arena finite.class finite.lag Black (codes Black) c.args.number))
    ((rw c.in_default.is at c.compare.ensures) ∙ white) c.compare-2.ensures
