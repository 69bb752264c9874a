mod SolveStages
mod SolvedOnce
mod Entries
mod Meaning
mod SolveEnds
mod KeptFiles
mod QueryAnswered
mod QueryMeans
mod QueryEnds
pub mod Lemmas
mod ReportEnds
mod ReportMeans
