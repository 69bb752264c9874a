pub mod FirstWrong
pub mod OneVerdict
pub mod OneFile
pub mod Accepted
pub mod KeptTables
pub mod FileChecks
pub mod Lemmas
