-- Other crates cite the module Lemmas alone.
pub mod Lemmas
mod Splitting
mod Wording
mod Lining
mod Gathering
mod Unions
mod Sets
mod Members
