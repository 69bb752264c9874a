mod NextTold
mod Reached
mod ExitLags
mod BoundCodes
pub mod Lemmas
