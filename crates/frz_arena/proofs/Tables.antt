-- The table of a side.
pub mod OneTable
pub mod TablesExist
pub mod StoredCodes
