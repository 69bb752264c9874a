-- The lemmas that the crates above cite.
pub use Rattle.frz_build.proofs.AfterOpening.{builds_after, costs_added, costs_kept, quiet_same, still_held}
pub use Rattle.frz_build.proofs.Parts.{all_written, black_failed, header_refused, white_failed}
pub use Rattle.frz_check.proofs.Lemmas.{few_plies, file_not_loaded, file_opens, file_there, same_verdict, verdict_on, within_file}
