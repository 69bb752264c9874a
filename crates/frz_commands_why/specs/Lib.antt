-- What the contracts of `why` speak of.
pub mod Deciders
pub mod Decides
pub mod Texts
pub mod Telling
pub mod Ending
pub mod WhyOf
pub mod Costs
pub mod Best
pub mod Denying
pub mod Meaning
pub mod Asking
