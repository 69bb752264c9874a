-- What the contracts of exit lines speak of.
pub mod Numbers
pub mod Saying
