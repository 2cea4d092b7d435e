-- The laws of the fields: what the proofs of the functions cite, here and in the crates above.
pub mod Digits
