-- The definitions that the contracts of the logarithm cite, in the order to read them in, then what it asks of its callers; Tables is generated and only
-- looked up.
pub mod Scale
pub mod Fractions
pub mod Tables
pub mod Log2
pub mod Preconditions
