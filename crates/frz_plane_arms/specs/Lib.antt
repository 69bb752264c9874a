-- Moves from configuration to configuration.
pub mod Arms
pub mod Crowning
pub mod Binding
pub mod MenArms
pub mod Inner
pub mod Inside
