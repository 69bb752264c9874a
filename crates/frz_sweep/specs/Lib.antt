pub mod Told
pub mod Winning
