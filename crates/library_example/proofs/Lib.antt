mod KeptCodes
mod LineEnds
mod LinePlayed
