-- Squares by number, and sets of them.
pub mod Squares
pub mod SquareSets
pub mod Steps
pub mod Words
