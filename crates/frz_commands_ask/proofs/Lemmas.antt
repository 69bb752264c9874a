-- The lemmas that the crates above cite.
pub use Rattle.frz_commands_ask.proofs.SolvedOnce.{solve_lawful}
pub use Rattle.frz_commands_ask.proofs.QueryMeans.{query_means}
pub use Rattle.frz_commands_ask.proofs.QueryAnswered.{
  at_position,
  never_missing,
  never_refused,
  of_position,
  query_answered,
}
pub use Rattle.frz_commands_ask.proofs.QueryEnds.{chainquery_lawful, query_lawful}
pub use Rattle.frz_commands_ask.proofs.ReportEnds.{report_lawful}
