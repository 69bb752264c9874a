use Rattle.std.proofs.Common.{subst}
use Rattle.frz_board.specs.Men.{other_of}
use Rattle.frz_retro.specs.Notes.{AreNoted}
use Rattle.frz_sets.specs.Sets.{size_of}
use Rattle.frz_arena.specs.Tables.{IsExact}
use Rattle.frz_game.specs.Games.{graph_by}
use Rattle.frz_retro.proofs.both_sides.BothSides.run_game.Goals as goal

pub returns-clause-table : goal.returns-clause-table
returns-clause-table g c =
    let game = c.args.game.now in
    let exact = subst (λ h. IsExact (graph_by h.rules.now (g.B.ExitBook.value_at h.book.now))
    c.args.side (size_of h.rules.now.groups) c.run.new.self.entries) c.new.ensures.game
    c.run.ensures.exact in
    c.tables.ensures.table game.rules.now (g.B.ExitBook.value_at game.book.now) c.args.side
    c.run.new.self.entries exact

pub returns-clause-noted : goal.returns-clause-noted
returns-clause-noted g c =
    subst (λ h. AreNoted (graph_by h.rules.now (g.B.ExitBook.value_at h.book.now))
    (size_of h.rules.now.groups) (other_of c.args.side) (size_of h.rules.now.groups)
    c.run.new.self.notes) c.new.ensures.game c.run.ensures.noted
