-- The lemmas that crates above cite.
pub use Rattle.frz_sets.proofs.SoundGroups.{counted, few_groups}
pub use Rattle.frz_sets.proofs.Sizes.{capped_times}
