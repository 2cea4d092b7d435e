-- The definitions that the contracts of gravity_constant cite, in the order to read them in: the request's words first (Questions, Formula, Answer),
-- what they force (Forced), then what nobody has to believe: the program's choice, and what inner functions ask for.
pub mod Viscosity
pub mod Questions
pub mod Formula
pub mod Answer
pub mod Forced
pub mod Chosen
pub mod Preconditions
