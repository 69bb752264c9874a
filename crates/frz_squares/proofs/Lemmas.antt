-- The lemmas on squares and on sets of squares that other crates cite.
pub use Rattle.frz_squares.proofs.Connectives.{
  either_or,
  implied,
  implies,
  not_same,
  same_not,
}
pub use Rattle.frz_squares.proofs.AllSquares.{
  length-squares,
  get_or-squares,
  all_from,
  all_at,
  each_square,
  all_squares,
  not_all_squares,
  Found,
  some_square,
  any_square,
  no_square,
  all_squares-same,
}
pub use Rattle.frz_squares.proofs.Bits.{
  bits_below-small,
  bits_below-next,
  bits_below-skip,
  bits_below-jump,
  has-bits_below,
  has-set_of,
  set_of-small,
  set_of-same,
  set_of-from,
  has-and,
  has-or,
  has-not,
  has-without,
  union,
  has-zero,
  empty_set,
  apart_sets,
  set_of-none,
  set_of-some,
  set_reading,
  one_or_none,
}
pub use Rattle.frz_squares.proofs.Steps.{beside, row, around, around_is}
pub use Rattle.frz_squares.proofs.Next.{none_left, next_is}
pub use Rattle.frz_squares.proofs.Counts.{sum_by-next, ones_of, ones_in}
