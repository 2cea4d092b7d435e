-- The definitions that the contracts of rounding cite, in the order to read them in.
pub mod Nearest
pub mod HalfToEven
pub mod Preconditions
