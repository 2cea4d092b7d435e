-- The definitions that the contracts of the fields cite: which bytes a field is.
pub mod Fields
