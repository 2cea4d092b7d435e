-- The laws of the tray with its summary.
pub mod Parts
pub mod Kept
pub mod Lists
