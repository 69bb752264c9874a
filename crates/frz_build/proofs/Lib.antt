pub mod Parts
pub mod Built
pub mod AfterOpening
pub mod Lemmas
