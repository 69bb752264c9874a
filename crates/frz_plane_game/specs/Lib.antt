-- A game whose numbers are pairs in planes.
pub mod Spots
pub mod Targets
