-- Lines and sessions.
pub mod Stages
pub mod OneWay
pub mod FoundArms
pub mod WayParts
pub mod EachPly
pub mod KeptWays
pub mod RightWays
pub mod SafeWays
pub mod LinesEnd
pub mod FoundChoices
pub mod Follows
pub mod SessionsEnd
pub mod Reaching
pub mod Turns
pub mod ZeroWays
pub mod Counted
pub mod WayByCases
