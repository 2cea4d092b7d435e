-- The definitions that the contracts about viscosities and the basis cite, then what is shown of them, in the order to read them in.
pub mod Refusal
pub mod Viscosity
pub mod Table1
pub mod Basis
pub mod Rows
pub mod StraightLines
pub mod Rise
pub mod Limits
pub mod Examples
