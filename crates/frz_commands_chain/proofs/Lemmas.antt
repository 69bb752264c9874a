-- The lemmas that the crates above cite.
pub use Rattle.frz_commands_chain.proofs.ChainOnce.{chain_lawful}
pub use Rattle.frz_commands_chain.proofs.ExactChains.{chain_contents, chain_opens, chain_tables}
pub use Rattle.frz_commands_chain.proofs.PairMeaning.{chaincheck_lawful}
