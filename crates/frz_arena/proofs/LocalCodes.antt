-- What a local code says of the plies.
pub mod ChosenCodes
pub mod Ranked
pub mod PlyCodes
pub mod CodesByPlies
pub mod OnePly
pub mod UniqueCodes
pub mod Witnessed
