-- The laws of summaries.
pub mod Fits
pub mod Right
pub mod OneLess
