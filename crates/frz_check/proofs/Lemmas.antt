-- The lemmas that the crates above use.
pub use Rattle.frz_check.proofs.Accepted.{
  few_plies,
  file_tables,
  read_small,
  small_lags,
}
pub use Rattle.frz_check.proofs.KeptTables.{HoldsTables, both_tables, bound_kept, exact_contents, exact_opens, exact_tables}
pub use Rattle.frz_check.proofs.FileChecks.{file_not_loaded, file_opens, many_codes, same_verdict, within_file}
pub use Rattle.frz_check.proofs.OneVerdict.{TablesExact, verdict_there, one_verdict, exact_verdict}
pub use Rattle.frz_check.proofs.OneFile.{
  file_there,
  one_file,
  one_file_opens,
  one_file_holds,
  same_rules,
  tables_are_one,
  one_text,
  verdict_on,
}
pub use Rattle.frz_game.proofs.Lemmas.{plies_few, table_exact, table_there}
