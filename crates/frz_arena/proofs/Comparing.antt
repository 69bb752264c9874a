-- Two games over the same chess.
pub mod Agreeing
pub mod Freer
