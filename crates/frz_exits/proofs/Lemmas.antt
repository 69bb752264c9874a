-- The lemmas on values that other crates cite.
pub use Rattle.frz_exits.proofs.Classes.{opposed}
pub use Rattle.frz_exits.proofs.FittingLines.{IsFirst, first_fits, none_fits}
pub use Rattle.frz_exits.proofs.SoundLags.{sound_lags, small_values}
