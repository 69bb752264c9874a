use Rattle.std.proofs.Common.{◌≡◌, ◌≤◌, ◌&&◌, take, count_by, nat_le}
use Rattle.frz_board.proofs.counts.count_between.Given as goal

abbrev pub invariant-loop-cell : goal.invariant-loop-cell
invariant-loop-cell l = record {
  counted : l.count
      ≡ count_by (λ x. nat_le l.least x && nat_le x l.most) (take l.cell-index l.cells);
  few : l.count ≤ l.cell-index;
}
