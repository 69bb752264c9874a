-- The lemmas on chess by planes that other crates cite.
pub use Rattle.frz_plane_chess.proofs.BoardNumbers.{board_numbers, live_members, no_numbers}
pub use Rattle.frz_plane_chess.proofs.Leading.{some_leading}
pub use Rattle.frz_plane_chess.proofs.Legal.{some_move}
