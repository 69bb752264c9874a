pub mod Pairs
pub mod Earlier
pub mod Adding
pub mod Gathering
pub mod Quiet
