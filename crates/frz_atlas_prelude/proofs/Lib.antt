pub mod Lemmas
mod BackRefused
mod TablesOnce
mod RulesAnswered
mod HeldNames
mod HeldTable
mod RulesRead
mod SmallPlaces
mod FaultEnds
mod Over
mod Unread
mod NamesTaken
mod OwnRefused
mod WordsAsked
mod WordsGiven
