-- The laws of the lines: what the proofs of the functions cite, and the report's.
pub mod Outcomes
pub mod Widths
pub mod Examples
