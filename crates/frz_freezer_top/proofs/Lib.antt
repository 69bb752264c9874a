pub mod Answering
pub mod Calling
mod CallsInTurn
mod CallsAfterWriting
