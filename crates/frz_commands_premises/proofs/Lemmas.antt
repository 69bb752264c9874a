-- The lemmas that the crates above cite.
pub use Rattle.frz_commands_premises.proofs.Lawful.{premises_lawful}
pub use Rattle.frz_commands_premises.proofs.BeliefCounted.{count_behind}
pub use Rattle.frz_commands_premises.proofs.ExactTables.{all_read, exact_front, link_size, links_are, links_loaded, sizes_checked, sizes_loaded, texts_loaded}
pub use Rattle.frz_commands_premises.proofs.Meaning.{behind_mean}
pub use Rattle.frz_commands_premises.proofs.SideWords.{true_codes}
pub use Rattle.frz_commands_premises.proofs.Writable.{writable_behind}
pub use Rattle.frz_premises.proofs.Lemmas.{all_true, none_hold}
