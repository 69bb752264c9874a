pub mod Lemmas
mod Pascals
mod Ranking
mod Selecting
mod Digits
mod Rows
