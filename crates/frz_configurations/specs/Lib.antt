pub mod Configurations
pub mod Parts
pub mod Joined
pub mod Shares
