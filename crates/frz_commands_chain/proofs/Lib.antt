mod BothHeld
mod BackOnce
mod ChainStops
mod PairOnce
mod Pairs
mod PairMeaning
mod BothFound
mod ChainOnce
mod ChainAccepted
mod ExactChains
mod ChainAt
mod NoTable
mod OnItself
mod Chains
pub mod Lemmas
