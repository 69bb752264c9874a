pub mod Lemmas
mod Told
mod FirstValue
mod OwnLines
mod DecidingLines
mod LoadedTables
mod SmallLags
mod Numbered
mod TrueTables
mod Transfer
mod TablePlies
mod LinkPlies
mod Outcomes
mod DecidedTables
mod ExactOver
