-- The lemmas that the crates above cite.
pub use Rattle.frz_commands_chess.proofs.MovesListed.{moves_lawful, sans_lawful}
pub use Rattle.frz_commands_chess.proofs.MoveOnce.{move_lawful}
