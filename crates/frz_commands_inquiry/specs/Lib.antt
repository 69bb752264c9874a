-- What the contracts of `ask` speak of.
pub mod Trimmed
pub mod Places
pub mod Inquiries
pub mod LinesTaken
pub mod Inquired
pub mod Ending
pub mod AskOf
pub mod Meaning
pub mod Asking
