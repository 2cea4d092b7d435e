-- The proofs of the two statements.
pub mod Kept
pub mod SameAnswers
pub mod AnyNumbers
