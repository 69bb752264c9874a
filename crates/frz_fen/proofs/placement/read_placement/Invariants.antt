use Rattle.std.proofs.Common.{◌≡◌, ◌≤◌, ◌*◌, ◌++◌, drop, length, option_map}
use Rattle.frz_fen.specs.Placement.{ranks, ranks_left, wrong_rank, board_cells}
use Rattle.frz_fen.proofs.placement.read_placement.Given as goal

abbrev pub invariant-loop-rank : goal.invariant-loop-rank
invariant-loop-rank l = record {
  few : l.rank ≤ 8;
  size : length l.cells ≡ 64;
  wrong : wrong_rank 8 (ranks l.fn.field)
      ≡ wrong_rank l.rank (ranks_left (option_map (λ t. t.now) l.rest));
  board : board_cells (ranks l.fn.field)
      ≡ board_cells (ranks_left (option_map (λ t. t.now) l.rest)) ++ drop (8 * l.rank) l.cells;
}

abbrev pub decreases-loop-rank : goal.decreases-loop-rank
decreases-loop-rank l = l.rank
