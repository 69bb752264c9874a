pub mod Lemmas
mod Adding
mod BuiltValues
mod Sizes
mod Telling
mod Writable
mod BeliefCounted
mod ExactTables
mod SideWords
mod Meaning
mod Once
mod Lawful
mod TablesFound
mod PremisesEnd
