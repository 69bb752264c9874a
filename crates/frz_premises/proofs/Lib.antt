pub mod Lemmas
mod InLists
mod FirstLines
mod Exits
mod TableWords
mod MenShow
mod Resting
mod TrueLines
mod ManyTexts
mod Numbering
mod Trying
mod SideValues
mod Needs
mod UndecidedExits
mod RestingLines
