pub mod Lemmas
mod Pairs
mod Told
mod TrueValues
mod Transfer
mod SmallLags
mod Causes
mod ExactBacks
mod Backs
mod Checked
mod Chained
mod TablePlies
mod ChainPlies
mod DecidedBacks
