-- Other crates cite the module Lemmas alone.
pub mod Lemmas
mod Cells
mod Between
mod MenGo
mod MenMoved
mod MenSafe
mod Pairs
mod KingsGo
mod KingPairs
mod Movers
mod Numbers
