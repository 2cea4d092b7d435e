-- The definitions that the contracts of summary_block cite.
pub mod Block
