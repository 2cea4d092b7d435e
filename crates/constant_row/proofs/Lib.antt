-- The laws of the row.
pub mod Calls
pub mod Forced
