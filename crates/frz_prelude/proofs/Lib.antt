pub mod Held
mod OpenedTables
mod RefusedTables
mod NamedRules
pub mod Positions
pub mod Lemmas
mod Stopping
mod UnlessSame
pub mod Replying
pub mod Taking
