-- The lemmas that the crates above use.
pub use Rattle.frz_report.proofs.ReportEnds.{MayReport, nothing_reported, report_ended}
pub use Rattle.frz_report.proofs.Loading.{loaded_cause}
pub use Rattle.frz_report.proofs.Writing.{all_written, classes_failed, last_failed, report_said, stopped_behind, stopped_early}
