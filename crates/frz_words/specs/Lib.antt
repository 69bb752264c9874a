-- What the contracts of texts speak of.
pub mod Parts
pub mod Lines
pub mod Words
pub mod Numbers
pub mod Squares
