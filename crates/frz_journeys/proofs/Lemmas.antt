-- The lemmas that the crates above cite.
pub use Rattle.frz_journeys.proofs.NextTables.{IsOnward, is_onward}
pub use Rattle.frz_backs.proofs.Lemmas.{exits_over_true}
