-- Exact bounds, and what chess says of them.
pub mod ExactWins
pub mod ExactFailures
pub mod Decided
