-- The bound of a side.
pub mod OneBound
pub mod BoundsExist
