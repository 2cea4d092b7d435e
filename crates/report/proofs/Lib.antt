-- The laws of the printed text, which the proofs of the functions cite.
pub mod Lines
pub mod Worked
