-- A set of chess positions as a game by planes.
pub mod Spots
pub mod Steps
pub mod Counted
pub mod Rows
pub mod Kept
