mod Censuses
mod Classing
mod Entries
mod FirstOnes
mod Loading
mod Looking
mod Numbering
mod Squeezing
mod Sums
mod Walking
mod Writing
pub mod Lemmas
mod Zugzwangs
mod Mutual
mod OpenExits
mod ReportEnds
