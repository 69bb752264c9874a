use Rattle.std.proofs.Common.{subst}
use Rattle.frz_sets.specs.Sets.{size_of}
use Rattle.frz_arena.specs.Tables.{IsExact}
use Rattle.frz_game.specs.Games.{graph_by}
use Rattle.frz_retro.proofs.both_sides.BothSides.run_game_second.Goals as goal

pub returns-clause-table : goal.returns-clause-table
returns-clause-table g c =
    let game = c.args.game.now in
    let exact = subst (λ h. IsExact (graph_by h.rules.now (g.B.ExitBook.value_at h.book.now))
    c.args.side (size_of h.rules.now.groups) c.run_second.new.self.entries) c.new.ensures.game
    c.run_second.ensures.exact in
    c.tables.ensures.table game.rules.now (g.B.ExitBook.value_at game.book.now) c.args.side
    c.run_second.new.self.entries exact
