-- What an exit line rests on: the definitions that the contracts cite.
pub mod WaysOut
pub mod Deciding
pub mod Saying
pub mod Men
pub mod Bases
pub mod Trials
pub mod Believing
pub mod Sides
pub mod Undecided
pub mod Needs
pub mod RestsOn
