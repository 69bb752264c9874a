pub mod Verbs
pub mod Commands
pub mod Calls
