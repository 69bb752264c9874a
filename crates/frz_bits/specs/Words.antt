-- The first square of a set from a number on.
pub use Rattle.frz_squares.specs.Words.{HasNoneFrom, IsNext}
