-- The laws of the row.
pub mod NoRow
pub mod Forced
