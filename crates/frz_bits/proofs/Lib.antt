-- Other crates cite the module Lemmas alone.
pub mod Lemmas
mod Tables
mod Attacked
mod Gather
mod Reaching
mod Men
mod Put
mod CountedBits
mod EndRanks
mod Hiding
mod HiddenSquares
