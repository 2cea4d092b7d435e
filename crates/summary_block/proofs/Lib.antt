-- The laws of the kept numbers.
pub mod Words
pub mod Blocks
