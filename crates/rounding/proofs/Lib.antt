-- The laws of rounding: what the nearest whole number is, and the quotient that the code computes.
pub mod HalfToEven
pub mod Quotient
