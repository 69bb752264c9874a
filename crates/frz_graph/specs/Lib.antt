pub mod EntryCodes
pub mod FreeCodes
pub mod Finite
pub use Rattle.frz_exits.specs.Books
pub use Rattle.frz_exits.specs.Conditions
pub use Rattle.frz_exits.specs.Forbidding
pub use Rattle.frz_exits.specs.Values
