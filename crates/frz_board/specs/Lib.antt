-- What the contracts of the board speak of.
pub mod Ranks
pub mod Squares
pub mod Lines
pub mod Men
pub mod Boards
pub mod Moving
pub mod Attacks
pub mod Attacking
pub mod EnPassant
pub mod Shapes
pub mod Texts
