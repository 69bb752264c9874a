mod OtherMen
mod KingGroups
mod CarriedMen
mod OnlyPosition
mod KnownKings
mod Emptied
mod KnownPairs
mod LivePairs
mod MembersByKings
mod DigitBoards
mod OneGroupMore
-- Other crates cite the module Lemmas alone.
pub mod Lemmas
