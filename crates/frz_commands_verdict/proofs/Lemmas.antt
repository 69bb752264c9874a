-- The lemmas that the crates above cite.
pub use Rattle.frz_commands_verdict.proofs.Lawful.{verdict_lawful}
pub use Rattle.frz_commands_premises.proofs.Lemmas.{premises_lawful}
