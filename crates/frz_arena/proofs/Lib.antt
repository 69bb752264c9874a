pub mod Lemmas
mod Lists
mod Plies
mod LocalCodes
mod Bounds
mod Forcing
mod Exactness
mod Comparing
mod Names
mod Tables
mod Ways
