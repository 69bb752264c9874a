-- The lemmas that the crates above use.
pub use Rattle.frz_plane_tables.proofs.KeptCodes.{moved_lists}
