-- Boards without kings, and kings put on them.
pub mod Kings
pub mod Attacked
pub mod Room
pub mod Valid
pub mod Turning
