use Rattle.std.proofs.Common.{ℕ, List, All, sym, subst}
use Rattle.frz_board.specs.Moving.{Step}
use Rattle.frz_sets.specs.declared.exit.Value.{Value}
use Rattle.frz_arena.specs.declared.arm.Arm.{Arm}
use Rattle.frz_graph.specs.EntryCodes.{IsWithin}
use Rattle.frz_ways.specs.Reads.{AreApart}
use Rattle.frz_ways.proofs.seeing.inspect.Goals as goal

pub read-requires-clause-within : goal.read-requires-clause-within
read-requires-clause-within g c =
    let arena = g.G.NumberedGame.arena c.args.game.now in
    let size = g.G.NumberedGame.count c.args.game.now in
    let number = c.args.cursor.number in
    let within = c.within.ensures arena size
    (g.met.G.NumberedGame.finite c.args.game.now c.requires.sound) number in
    subst (λ (arms : List (Arm Step ℕ Value)). All
    (λ a. IsWithin (g.T.KeptCodes.size c.args.table.now) a.next) arms)
    (sym c.nexts_by-node.ensures.arms)
    (subst (λ (n : ℕ). All (λ a. IsWithin n a.next) (arena.arms number))
    (sym c.requires.many) within)

pub read-requires-clause-apart : goal.read-requires-clause-apart
read-requires-clause-apart g c =
    subst (λ (arms : List (Arm Step ℕ Value)). AreApart arms) (sym c.nexts_by-node.ensures.arms)
    (c.requires.different c.args.cursor.number)
