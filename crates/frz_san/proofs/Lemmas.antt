-- The lemmas on notation that other crates cite.
pub use Rattle.frz_san.proofs.Signs.{one_move}
