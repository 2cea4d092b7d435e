-- The laws of the span, in an order in which none leans on a later one.
pub mod QuestionOrder
pub mod Extremes
pub mod Range
pub mod Bounded
pub mod Cases
pub mod Asked
pub mod Right
pub mod NoPairBeyond
pub mod Walk
pub mod Examples
