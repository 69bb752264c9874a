mod Never
pub mod Lemmas
