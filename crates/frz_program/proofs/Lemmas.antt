-- The lemmas that the programs cite.
pub use Rattle.frz_program.proofs.Never.{not_given}
