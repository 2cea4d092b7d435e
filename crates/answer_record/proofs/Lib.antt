-- The laws of bytes and records: what the proofs of the functions cite, and the crates above.
pub mod Numbers
pub mod Stores
pub mod Signed
pub mod Records
pub mod Fields
