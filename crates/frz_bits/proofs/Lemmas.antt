-- The lemmas on words of a board that other crates cite.
pub use Rattle.frz_bits.proofs.CountedBits.{count_by_squares, men_by_squares, men_counted}
pub use Rattle.frz_bits.proofs.Gather.{in_set, in_side, walk_room, walk_next, walk_end}
pub use Rattle.frz_bits.proofs.Hiding.{reaches_back}
pub use Rattle.frz_bits.proofs.Reaching.{
  files_back,
  ranks_back,
  rook_back,
  bishop_back,
  knight_back,
}
