mod InputLines
mod LineTaken
mod AnsweredOn
mod Running
mod Unread
mod BlankEnds
mod LinesAnswered
mod Means
mod Lawful
pub mod Lemmas
