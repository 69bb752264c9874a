pub mod Lemmas
mod OwnKinds
mod Causes
mod VerdictsByValues
mod TableFound
mod ExactTables
mod Several
mod Behind
mod OneMore
mod StillHeld
mod AtlasBuilt
mod AtlasChecked
mod TableLoaded
mod LoadedAll
mod AtlasLoaded
