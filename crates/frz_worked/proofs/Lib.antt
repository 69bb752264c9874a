mod FilterPicks
pub mod TenNumbers
mod ReadTexts
mod RookText
mod UnconditionalTexts
mod PawnBackText
mod PawnOverBack
