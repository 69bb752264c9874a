-- The lemmas that crates above cite.
pub use Rattle.frz_rules.proofs.Sounding.{text_sound}
