pub mod Sizing
pub mod Building
pub mod Checking
pub mod AtlasHeadline
pub mod CheckMeans
pub mod Reporting
pub mod Ranked
pub mod FirstBack
pub mod MoveRows
pub mod RowLines
pub mod Each
pub mod EachMeans
pub use Rattle.frz_atlas.specs.Behind
pub use Rattle.frz_atlas.specs.FileOver
pub use Rattle.frz_atlas_prelude.specs.Names
pub use Rattle.frz_atlas_prelude.specs.declared.names.TheConstants as Limits
pub mod InOrder
pub mod FirstExits
