-- What contracts say of calculations that ask, and of their runs.
pub mod Trees
pub mod Traces
pub mod Runs
pub mod Over
pub mod Tidy
pub mod Loops
pub mod Later
