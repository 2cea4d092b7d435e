-- The definitions that the contracts of the span cite, in the order to read them in: the request's words, what inner functions ask for and give, and statements
-- that no promise needs.
pub mod Questions
pub mod Extremes
pub mod Span
pub mod Preconditions
pub mod Bound
pub mod NoPairBeyond
pub mod Examples
