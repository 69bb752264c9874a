-- Other crates cite the module Lemmas alone.
pub mod Lemmas
mod Classes
mod FirstLines
mod FittingLines
mod SmallLags
mod SoundLags
mod WordsOfMen
