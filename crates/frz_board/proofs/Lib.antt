-- Other crates cite the module Lemmas alone.
pub mod Lemmas
mod CellsOfMen
mod WrittenCells
mod AttackInWords
mod FewerAttacks
mod NoNewCheck
mod Counting
mod EndRanks
mod Neighbours
