pub mod Lemmas
pub mod Adding
pub mod Undone
pub mod Ways
pub mod Coming
pub mod Names
pub mod Begins
pub mod Movers
pub mod EarlierTargets
pub mod Whole
pub mod StepsBack
pub mod StepsValid
pub mod StepsSafe
pub mod StepsTarget
pub mod StepsTold
mod QuietOrigins
