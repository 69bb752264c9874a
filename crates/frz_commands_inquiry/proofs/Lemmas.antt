-- The lemmas that the crates above cite.
pub use Rattle.frz_commands_inquiry.proofs.Lawful.{ask_lawful}
