-- The lemmas that the crates above use.
pub use Rattle.frz_sweep.proofs.NextTold.{no_win, no_failure}
pub use Rattle.frz_sweep.proofs.Reached.{reached_codes, few_plies}
pub use Rattle.frz_sweep.proofs.BoundCodes.{table_of_codes}
