-- The lemmas that the crates above cite.
pub use Rattle.frz_commands_table.proofs.BuiltOnce.{build_lawful}
pub use Rattle.frz_commands_table.proofs.CheckEnds.{check_lawful}
pub use Rattle.frz_commands_table.proofs.BuiltAccepted.{built_opens}
pub use Rattle.frz_commands_table.proofs.ExactFiles.{headline_contents, headline_opens, headline_tables}
pub use Rattle.frz_commands_table.proofs.MigratedOnce.{migrate_lawful}
pub use Rattle.frz_commands_table.proofs.SampleOnce.{sample_lawful}
