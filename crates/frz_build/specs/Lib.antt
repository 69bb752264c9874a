pub mod Building
pub use Rattle.frz_check.specs.Kept
pub use Rattle.frz_check.specs.OneFile
pub use Rattle.frz_check.specs.Verdicts
pub use Rattle.frz_check.specs.declared.verdict.Verdict
