-- The lemmas that the crates above use.
pub use Rattle.frz_graph.proofs.LocalCodes.{same_next}
pub use Rattle.frz_exits.proofs.Lemmas.{opposed, small_values}
