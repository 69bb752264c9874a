-- What the contracts on words, sets of squares in 64 bits, speak of.
pub mod Words
pub mod Rays
pub mod Sides
pub mod Ways
pub mod Reaching
