pub mod BoundLines
