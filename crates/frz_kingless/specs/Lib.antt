-- Boards of configurations.
pub mod Boards
