pub mod Victims
pub mod Repairs
