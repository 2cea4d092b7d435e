-- The definitions that the contract of the row cites.
pub mod SpanCall
