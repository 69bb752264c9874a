-- The command `premises` of the program `atlas`: the definitions that its contracts cite.
pub mod LineTexts
pub mod PremiseLines
pub mod Finding
pub mod Premises
pub mod PremisesMean
pub mod SidesMean
pub mod Premising
pub use Rattle.frz_premises.specs.Believing
