-- The lemmas that crates above cite.
pub use Rattle.frz_unmove.proofs.Adding.{at_place}
