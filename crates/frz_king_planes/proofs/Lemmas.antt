-- The lemmas on kings put on a board that other crates cite.
pub use Rattle.frz_king_planes.proofs.Crowned.{Crowned, crowned, Free, free_parts}
pub use Rattle.frz_king_planes.proofs.ValidPairs.{checked}
pub use Rattle.frz_king_planes.proofs.Shaped.{same_test}
