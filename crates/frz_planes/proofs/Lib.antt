mod Rows
mod Shifts
mod Apart
mod Pairs
