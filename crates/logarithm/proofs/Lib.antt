-- The laws of the logarithm. A crate above cites Log2 (the enclosure), Rise (it never falls), Constants, FromLogarithms,
-- Fractions and Certificate.
pub mod Certificate
pub mod Constants
pub mod FromLogarithms
pub mod Fractions
pub mod Level
pub mod Tail
pub mod Log2
pub mod Rise
