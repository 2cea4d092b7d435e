-- The definitions that the contracts of the pair operation cite, in the order to read them in: document 01's words, the answer that is chosen where
-- they leave a choice, what inner functions ask for, and statements that no promise needs.
pub mod Questions
pub mod ProcedureA
pub mod ProcedureB
pub mod Answer
pub mod ChosenAnswer
pub mod ChosenFractions
pub mod Preconditions
pub mod Examples
pub mod NearestIndex
pub mod Consistent
pub mod Determined
pub mod Order
