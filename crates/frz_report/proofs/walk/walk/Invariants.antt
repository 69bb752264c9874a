use Rattle.std.proofs.Common.{◌≡◌, ◌≤◌, ◌+◌, ◌*◌, length}
use Rattle.frz_store.specs.Told.{sink_of}
use Rattle.frz_answer.specs.Texts.{TookText}
use Rattle.frz_report.specs.Exits.{exits_below, positions_below}
use Rattle.frz_report.specs.Squeezes.{squeezes_below}
use Rattle.frz_report.specs.Walks.{Counts, KeepsFirsts, lines_below}
use Rattle.frz_report.proofs.walk.walk.Given as goal

abbrev pub invariant-loop-number : goal.invariant-loop-number
invariant-loop-number g l = record {
  took : TookText (lines_below l.game.rules.now (g.E.Entries.codes l.entries) l.number)
      (sink_of g.O.Sink l.fn.out) (sink_of g.O.Sink l.out);
  squeezes : l.squeezes ≡ length
      (squeezes_below l.game.rules.now.groups (g.E.Entries.codes l.entries) l.number);
  few_squeezes : l.squeezes ≤ l.number;
  counts : Counts l.census.classes.entries
      (exits_below l.game.rules.now (g.B.ExitBook.value_at l.game.book.now) l.number);
  total : l.census.total ≡ length
      (exits_below l.game.rules.now (g.B.ExitBook.value_at l.game.book.now) l.number);
  firsts : KeepsFirsts l.census.classes.entries l.census.firsts.items
      (positions_below l.game.rules.now (g.B.ExitBook.value_at l.game.book.now) l.number);
  few : l.census.total ≤ 1024 * l.number;
  steps : l.steps ≤ l.fn.steps + l.number;
  later : l.fn.steps ≤ l.steps;
}
