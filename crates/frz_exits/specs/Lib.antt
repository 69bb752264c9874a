-- What the values outside the set and the forbidden moves are.
pub mod Values
pub mod Forbidding
pub mod Conditions
pub mod Fitting
pub mod Books
pub use Rattle.frz_sets.specs.declared.exit.Value
