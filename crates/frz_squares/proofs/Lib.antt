-- Other crates cite the module Lemmas alone.
pub mod Lemmas
mod Connectives
mod AllSquares
mod Bits
mod Steps
mod Next
mod Counts
