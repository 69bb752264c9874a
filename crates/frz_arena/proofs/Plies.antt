-- Within how many plies a side wins or fails.
pub mod Later
pub mod Opposed
pub mod NeverBoth
pub mod NodeKinds
pub mod Stable
pub mod NextPlies
pub mod Decided
pub mod FewPlies
