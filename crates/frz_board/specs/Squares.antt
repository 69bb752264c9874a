-- The squares of the board, and how two squares lie to each other in files and ranks.
unfoldable pub use Rattle.frz_squares.specs.Squares.{squares}
pub use Rattle.frz_squares.specs.Squares.{
  file_of,
  rank_of,
  apart,
  files_apart,
  ranks_apart,
  distance,
  is_beside,
}
pub use Rattle.frz_board.specs.Ranks.{is_forward}
