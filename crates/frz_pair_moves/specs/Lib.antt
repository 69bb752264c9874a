-- Moves on boards without kings, at all pairs of kings' squares.
pub mod Ways
pub mod Moves
pub mod Kings
pub mod Steps
