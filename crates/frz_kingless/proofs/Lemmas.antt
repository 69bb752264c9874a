-- The lemmas on boards of configurations that other crates cite.
pub use Rattle.frz_kingless.proofs.MembersByKings.{board_there, known_there, made_member, made_split}
pub use Rattle.frz_kingless.proofs.KnownKings.{known_king}
pub use Rattle.frz_kingless.proofs.OnlyPosition.{are_empty, is_that}
pub use Rattle.frz_kingless.proofs.KingGroups.{has_number}
