pub mod QueriesOnce
pub mod Answering
pub mod Calling
mod ExactTables
mod CallsInTurn
mod CallsAfterBuilding
