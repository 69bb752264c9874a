-- What the contracts of the rules of chess speak of.
pub mod Checks
pub mod Legal
pub mod Listing
pub mod Exposing
pub mod SquareBySquare
pub mod Valid
pub mod Ends
pub mod LegalMoves
pub mod Bare
pub use Rattle.frz_bits.specs.Words
