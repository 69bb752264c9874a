pub mod Lemmas
mod LastTable
mod TrueVerdicts
mod Meaning
mod Once
mod Lawful
mod NamesHold
mod Running
mod Found
mod Lines
mod Placed
