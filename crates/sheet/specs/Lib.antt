-- The definitions that the contracts of the sheet cite, and its examples, in the order to read them in; then what inner functions ask for.
pub mod Numbers
pub mod Sheet
pub mod Demand3
pub mod Examples
pub mod Preconditions
