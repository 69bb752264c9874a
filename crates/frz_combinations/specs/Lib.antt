pub mod Binomials
pub mod Combinations
pub mod Selections
pub mod MixedRadix
