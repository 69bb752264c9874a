pub mod Endings
pub mod JourneyOf
pub mod Meaning
pub mod Costs
pub mod Journeying
