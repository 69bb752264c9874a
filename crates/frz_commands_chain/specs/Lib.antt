pub mod Stops
pub mod Backs
pub mod Reading
pub mod Chaining
pub mod Checking
pub mod ChainHeadline
pub mod CheckMeans
pub use Rattle.frz_chain.specs.Books
