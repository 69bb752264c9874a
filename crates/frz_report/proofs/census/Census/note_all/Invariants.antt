use Rattle.std.proofs.Common.{◌≡◌, ◌+◌, ◌++◌, ℕ, List, length, take}
use Rattle.frz_board.specs.Boards.{Board}
use Rattle.frz_report.specs.Exits.{classes_after, positions_after}
use Rattle.frz_report.specs.Walks.{Counts, KeepsFirsts}
use Rattle.frz_report.proofs.census.Census.note_all.Given as goal

abbrev pub invariant-loop-arm : goal.invariant-loop-arm
invariant-loop-arm l = record {
  total : l.self.total ≡ l.fn.self.total + length (classes_after l.p (take l.arm-index l.arms));
  firsts : (exits : List Board)
      → KeepsFirsts l.fn.self.classes.entries l.fn.self.firsts.items exits
      → KeepsFirsts l.self.classes.entries l.self.firsts.items
      (exits ++ positions_after l.p (take l.arm-index l.arms));
  counts : (exits : List (List ℕ)) → Counts l.fn.self.classes.entries exits
      → Counts l.self.classes.entries (exits ++ classes_after l.p (take l.arm-index l.arms));
}
