pub mod Listing
pub mod Moving
