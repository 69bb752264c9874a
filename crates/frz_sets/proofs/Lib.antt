pub mod Lemmas
pub mod Sizes
pub mod SoundGroups
