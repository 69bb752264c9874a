-- Other crates cite the module Lemmas alone.
pub mod Lemmas
mod OtherDigits
mod KingStates
mod OneNumber
mod PositionSplit
mod TakingApart
mod Ready
mod Ending
mod PuttingTogether
mod Sums
mod KingTests
mod AnySplit
mod KeptSums
