-- The proofs of FEN.
pub mod Fielding
pub mod RankCells
pub mod Placing
pub mod Meaning
pub mod RankTexts
pub mod WholeTexts
pub mod Roundtrip
pub mod Shortest
