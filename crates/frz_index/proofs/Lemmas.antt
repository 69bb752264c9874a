-- The lemmas that crates above cite.
pub use Rattle.frz_index.proofs.AtNumbers.{is_candidate}
pub use Rattle.frz_index.proofs.Counting.{eqb_swap}
pub use Rattle.frz_index.proofs.GroupSteps.{all_drop, drop_end, drop_read, radix_some, product_le, product_some, whole_fits}
pub use Rattle.frz_index.proofs.LeavingMoves.{outside_after}
pub use Rattle.frz_index.proofs.OwnSquares.{men_put, own_digits}
pub use Rattle.frz_index.proofs.RoomForMen.{room_where, same_man}
pub use Rattle.frz_index.proofs.SoundShapes.{cells_fit}
pub use Rattle.frz_index.proofs.Soundness.{apart, numberable}
pub use Rattle.frz_index.proofs.SpreadMembers.{digits_free}
pub use Rattle.frz_index.proofs.Stepping.{after_quiet, at_from, at_rest, at_to}
pub use Rattle.frz_index.proofs.Turns.{target_possible, turn_forth}
pub use Rattle.frz_index.proofs.WholeNumbers.{digits_are, turn_fits, Num_below, candidate-Num}
pub use Rattle.frz_index.proofs.Membership.{
  member_of,
  of_member,
  number_there,
  number_missing,
  number_tells,
  position_tells,
  position_of,
  number_back,
  number_found,
  number_answer,
  position_answer,
  answer_valid,
}
