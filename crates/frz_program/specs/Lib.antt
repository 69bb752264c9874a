pub mod Commands
pub mod NoWords
