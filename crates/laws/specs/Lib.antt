-- What several crates' definitions name.
pub mod Bits
pub mod Questions
