pub mod KeptCodes
pub mod Lemmas
