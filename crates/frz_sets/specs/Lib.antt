pub mod Views
pub mod Groups
pub mod Sets
pub mod Sound
