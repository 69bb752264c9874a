-- Positions under other names.
pub mod SameUnderNames
pub mod NumbersAreNames
pub mod NumberedGames
