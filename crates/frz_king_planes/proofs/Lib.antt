-- Other crates cite the module Lemmas alone.
pub mod Lemmas
mod Rows
mod Exchanges
mod OpenSquares
mod JoinedAttacks
mod Crowned
mod AttackedPast
mod Rooms
mod Shaped
mod ValidPairs
