pub mod Solving
pub mod Meaning
pub mod Kept
pub mod AskedFiles
pub mod Querying
pub mod Reporting
