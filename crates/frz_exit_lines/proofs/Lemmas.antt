-- The lemmas that crates above cite.
pub use Rattle.frz_exit_lines.proofs.Saying.{as_many_lines, said_there}
