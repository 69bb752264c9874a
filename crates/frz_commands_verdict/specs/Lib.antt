-- The command `verdict` of the program `atlas`: the definitions that its contracts cite.
pub mod Verdicts
pub mod Texts
pub mod Finding
pub mod Answers
pub mod VerdictMeans
pub mod Verdicting
pub mod Ending
pub use Rattle.frz_commands_premises.specs.Premising
pub use Rattle.frz_backs.specs.Links
