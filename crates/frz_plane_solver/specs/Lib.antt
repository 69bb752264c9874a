-- What the solver by planes decides.
pub mod Decided
pub mod Marks
pub mod Walks
