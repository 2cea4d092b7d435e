-- The definitions that the contracts of constant_row cite.
pub mod ConstantCall
