-- The lemmas on the board that other crates cite.
pub use Rattle.frz_board.proofs.CellsOfMen.{
  cell_back,
  cell_forth,
  cell-some,
  cell-small,
  other_other,
  kind-number,
  other_differs,
}
pub use Rattle.frz_board.proofs.WrittenCells.{set_at}
pub use Rattle.frz_board.proofs.AttackInWords.{test_means, means_test, forward_means, means_forward}
pub use Rattle.frz_board.proofs.FewerAttacks.{attacks_too}
pub use Rattle.frz_board.proofs.NoNewCheck.{one_side, no_new_check}
