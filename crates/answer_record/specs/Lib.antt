-- The definitions that the contracts of the record cite, in the order to read them in.
pub mod Bytes
pub mod Record
