pub mod Lemmas
pub mod Numbering
pub mod Saying
