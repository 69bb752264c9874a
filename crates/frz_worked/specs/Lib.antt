pub mod Ten
pub mod RookText
pub mod FortressText
pub mod WorkedTexts
