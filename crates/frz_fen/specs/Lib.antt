-- What the contracts of FEN speak of.
pub mod Fields
pub mod Placement
pub mod Reading
pub mod Writing
