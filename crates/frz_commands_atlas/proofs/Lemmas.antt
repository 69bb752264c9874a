-- The lemmas that the crates above cite.
pub use Rattle.frz_commands_atlas.proofs.CheckMeaning.{exact_atlas}
pub use Rattle.frz_commands_atlas.proofs.EachMeaning.{each_lawful}
pub use Rattle.frz_commands_atlas.proofs.Lawful.{build_lawful, check_lawful}
pub use Rattle.frz_commands_atlas.proofs.ReportMeaning.{report_lawful}
pub use Rattle.frz_commands_atlas.proofs.SizeEnds.{size_lawful}
pub use Rattle.frz_commands_atlas.proofs.BuiltKinds.{built_leans, built_own}
pub use Rattle.frz_atlas.proofs.Lemmas.{as_own, of_own}
