-- The definitions that the contracts of index_summary cite, in the order to read them in.
pub mod Summary
pub mod Preconditions
