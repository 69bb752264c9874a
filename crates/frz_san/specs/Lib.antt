pub mod Notation
pub mod Rivals
pub mod Leaving
