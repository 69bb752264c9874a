mod KingDigits
mod Placing
mod LiveNumbers
mod Positions
mod Legal
mod Leading
mod BoardNumbers
mod GatheredExits
mod WaysOut
mod Mates
mod RowNumbers
mod Turns
mod Lags
mod Pushed
-- Other crates cite the module Lemmas alone.
pub mod Lemmas
mod Changes
