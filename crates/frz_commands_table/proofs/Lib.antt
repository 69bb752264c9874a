pub mod Lemmas
mod BuildStages
mod BuildAsked
mod BuildMeaning
mod BuiltOnce
mod JudgedFiles
mod CheckMeaning
mod CheckEnds
mod OneAccepted
mod ExactFiles
mod BuiltAccepted
mod SampleText
mod SampleOnce
mod MovedCodes
mod MovedFiles
mod MigrateMeaning
mod MigratedOnce
mod MigrateEnds
