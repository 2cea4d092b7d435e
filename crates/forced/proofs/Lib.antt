-- The proofs of the two statements.
pub mod Fractions
pub mod ForcedAnswers
pub mod Forced
