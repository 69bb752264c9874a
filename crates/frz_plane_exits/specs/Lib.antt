-- Steps that leave a set.
pub mod Exits
pub mod Leaving
pub mod Adding
