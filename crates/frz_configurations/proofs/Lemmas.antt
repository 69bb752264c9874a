-- The lemmas on configurations that other crates cite.
pub use Rattle.frz_configurations.proofs.KingStates.{IsKingly, IsOn, king_found, kingly, on_square, state_is}
pub use Rattle.frz_configurations.proofs.OneNumber.{king_squares, none_later, one_number, one_place}
pub use Rattle.frz_configurations.proofs.PositionSplit.{one_configuration, position_split}
pub use Rattle.frz_configurations.proofs.OtherDigits.{configuration_below, other_digits-map, other_digits_fit, same_digits}
