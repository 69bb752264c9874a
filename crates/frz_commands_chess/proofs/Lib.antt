pub mod Joining
pub mod MovesListed
pub mod MoveOnce
pub mod Lemmas
